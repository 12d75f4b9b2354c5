-- Texts that are read line by line: a text has one outcome.
use Rattle.std.proofs.Common.{◌≡◌, ◌≢◌, ℕ, suc, ◌+◌, ◌<◌, ◌≤◌, List, [], ◌∷◌, ◌++◌, length, refl, sym, ap, ◌∙◌, subst, arith, append_assoc, append-nil, length-append}
use Rattle.std.specs.Prelude.{All}
use Rattle.std.proofs.lemmas.List.Concat.{flat_map-append}
use Rattle.sc_base.specs.Lines.{IsLine, joined, GoThrough, ReadTo, IsReadWhole, IsFirstBad, IsFirstBreak, LeadsOneWay}

-- two lines at the front of one text are one line
fronts_one : (xs ys more after : List ℕ) → All (λ byte. byte ≡ 10 → ⊥) xs → All (λ byte. byte ≡ 10 → ⊥) ys →
    xs ++ 10 ∷ more ≡ ys ++ 10 ∷ after → (xs ≡ ys) × (more ≡ after)
fronts_one [] [] more after a b same = (refl, cc)
fronts_one [] (y ∷ ys) more after a b same = let here : y ≡ 10 = cc in absurd (b 0 0 (omega arith) here)
fronts_one (x ∷ xs) [] more after a b same = let here : x ≡ 10 = cc in absurd (a 0 0 (omega arith) here)
fronts_one (x ∷ xs) (y ∷ ys) more after a b same =
    let tails : xs ++ 10 ∷ more ≡ ys ++ 10 ∷ after = cc in
    let rest = fronts_one xs ys more after (λ k d l. a (suc k) d (omega (arith, l))) (λ k d l. b (suc k) d (omega (arith, l))) tails in
    let heads : x ≡ y = cc in
    (ap (λ (z : ℕ). z ∷ xs) heads ∙ ap (λ (z : List ℕ). y ∷ z) rest.0, rest.1)

line_front : (front more : List ℕ) → (front ++ 10 ∷ []) ++ more ≡ front ++ 10 ∷ more
line_front front more = append_assoc front (10 ∷ []) more

pub one_line : (line other more after : List ℕ) → IsLine line → IsLine other → line ++ more ≡ other ++ after → (line ≡ other) × (more ≡ after)
one_line line other more after a b same =
    let left : line ++ more ≡ a.front ++ 10 ∷ more = ap (λ (z : List ℕ). z ++ more) a.line_is ∙ line_front a.front more in
    let right : other ++ after ≡ b.front ++ 10 ∷ after = ap (λ (z : List ℕ). z ++ after) b.line_is ∙ line_front b.front after in
    let both = fronts_one a.front b.front more after a.no_feed b.no_feed (sym left ∙ (same ∙ right)) in
    (a.line_is ∙ (ap (λ (z : List ℕ). z ++ 10 ∷ []) both.0 ∙ sym b.line_is), both.1)

-- a line has a byte
pub line_long : (line : List ℕ) → IsLine line → 0 < length line
line_long line a = omega (arith, ap length a.line_is, length-append a.front (10 ∷ []))

-- a line is not at the end of a text
pub line_there : (line more : List ℕ) → IsLine line → line ++ more ≡ [] → ⊥
line_there line more a same = omega (arith, line_long line a, ap length same, length-append line more)

-- lines and one more
joined-append : (lines : List (List ℕ)) (line : List ℕ) → joined (lines ++ line ∷ []) ≡ joined lines ++ line
joined-append lines line = flat_map-append (λ line. line) lines (line ∷ []) ∙ ap (λ (z : List ℕ). joined lines ++ z) (append-nil line)

module _ {Stage : Type 0} (Goes : Stage → List ℕ → Stage → Type 0) where
  go-append : (from : Stage) (lines : List (List ℕ)) (stage : Stage) (line : List ℕ) (next : Stage) → GoThrough Goes from lines stage → IsLine line →
      Goes stage line next → GoThrough Goes from (lines ++ line ∷ []) next
  go-append from [] stage line next go is goes = (next, is, subst (λ (z : Stage). Goes z line next) (sym go) goes, refl)
  go-append from (x ∷ lines) stage line next go is goes = (go.0, go.1, go.2, go-append go.0 lines stage line next go.3 is goes)

  -- nothing is read yet
  pub read_nothing : (from : Stage) (text : List ℕ) (first : ℕ) → ReadTo Goes from text first from text first
  read_nothing from text first = record { lines = []; text_is = refl; go = refl; number_is = omega arith }

  -- one more line goes on
  pub read_more : (from : Stage) (text : List ℕ) (first : ℕ) (stage : Stage) (rest : List ℕ) (number : ℕ) (line more : List ℕ) (next : Stage) →
      ReadTo Goes from text first stage rest number → IsLine line → rest ≡ line ++ more → Goes stage line next →
      ReadTo Goes from text first next more (number + 1)
  read_more from text first stage rest number line more next reads is there goes = record {
    lines = reads.lines ++ line ∷ [];
    text_is = reads.text_is ∙ (ap (λ (z : List ℕ). joined reads.lines ++ z) there ∙ (sym (append_assoc (joined reads.lines) line more)
        ∙ ap (λ (z : List ℕ). z ++ more) (sym (joined-append reads.lines line))));
    go = go-append from reads.lines stage line next reads.go is goes;
    number_is = omega (arith, reads.number_is, length-append reads.lines (line ∷ []));
  }

  lines_short : (from : Stage) (lines : List (List ℕ)) (stage : Stage) → GoThrough Goes from lines stage → length lines ≤ length (joined lines)
  lines_short from [] stage go = omega arith
  lines_short from (line ∷ lines) stage go =
      omega (arith, lines_short go.0 lines stage go.3, line_long line go.1, length-append line (joined lines))

  -- each line has a byte, so their numbers are bounded by the length of the text
  pub read_short : (from : Stage) (text : List ℕ) (first : ℕ) (stage : Stage) (rest : List ℕ) (number : ℕ) →
      ReadTo Goes from text first stage rest number → number + length rest ≤ first + length text
  read_short from text first stage rest number reads =
      omega (arith, lines_short from reads.lines stage reads.go, reads.number_is, ap length reads.text_is, length-append (joined reads.lines) rest)

  -- the text is read whole
  pub read_whole : (MayEnd : Stage → Type 0) (from : Stage) (text : List ℕ) (first : ℕ) (stage : Stage) (rest : List ℕ) (number : ℕ) →
      ReadTo Goes from text first stage rest number → rest ≡ [] → MayEnd stage → IsReadWhole Goes MayEnd from text stage
  read_whole MayEnd from text first stage rest number reads none may_end = record {
    lines = reads.lines;
    text_is = reads.text_is ∙ (ap (λ (z : List ℕ). joined reads.lines ++ z) none ∙ append-nil (joined reads.lines));
    go = reads.go;
    may_end = may_end;
  }

-- where two readings of a text stop: at one place
record Same {Stage : Type 0} (stage end : Stage) (rest last : List ℕ) (xs ys : List (List ℕ)) : Type 0 where
  stages : stage ≡ end
  rests : rest ≡ last
  lines : xs ≡ ys

module _ {Stage Limit : Type 0} (Goes : Stage → List ℕ → Stage → Type 0) (Breaks : Stage → List ℕ → Limit → Type 0) (one_way : LeadsOneWay Goes Breaks) where
  -- no line goes on there
  Stops : Stage → List ℕ → Type 0
  Stops stage rest = (line more : List ℕ) (next : Stage) → IsLine line → rest ≡ line ++ more → Goes stage line next → ⊥

  same_stop : (from : Stage) (xs ys : List (List ℕ)) (stage end : Stage) (rest last : List ℕ) →
      GoThrough Goes from xs stage → GoThrough Goes from ys end → joined xs ++ rest ≡ joined ys ++ last → Stops stage rest → Stops end last →
      Same stage end rest last xs ys
  unfolding Stops
  same_stop from [] [] stage end rest last a b same none nil = record { stages = sym a ∙ b; rests = same; lines = refl }
  same_stop from [] (y ∷ ys) stage end rest last a b same none nil =
      absurd (none y (joined ys ++ last) b.0 b.1 (same ∙ append_assoc y (joined ys) last) (subst (λ (z : Stage). Goes z y b.0) a b.2))
  same_stop from (x ∷ xs) [] stage end rest last a b same none nil =
      absurd (nil x (joined xs ++ rest) a.0 a.1 (sym same ∙ append_assoc x (joined xs) rest) (subst (λ (z : Stage). Goes z x a.0) b a.2))
  same_stop from (x ∷ xs) (y ∷ ys) stage end rest last a b same none nil =
      let cut : x ++ (joined xs ++ rest) ≡ y ++ (joined ys ++ last) = sym (append_assoc x (joined xs) rest) ∙ (same ∙ append_assoc y (joined ys) last) in
      let heads = one_line x y (joined xs ++ rest) (joined ys ++ last) a.1 b.1 cut in
      let nexts : a.0 ≡ b.0 = one_way.one_stage from y a.0 b.0 (subst (λ (z : List ℕ). Goes from z a.0) heads.0 a.2) b.2 in
      let more = same_stop a.0 xs ys stage end rest last a.3 (subst (λ (z : Stage). GoThrough Goes z ys end) (sym nexts) b.3) heads.1 none nil in
      record {
        stages = more.stages;
        rests = more.rests;
        lines = ap (λ (z : List ℕ). z ∷ xs) heads.0 ∙ ap (λ (z : List (List ℕ)). y ∷ z) more.lines;
      }

  stops_at_end : (stage : Stage) → Stops stage []
  unfolding Stops
  stops_at_end stage line more next is same goes = line_there line more is (sym same)

  stops_at_break : (stage : Stage) (line more : List ℕ) (limit : Limit) → IsLine line → Breaks stage line limit → Stops stage (line ++ more)
  unfolding Stops
  stops_at_break stage line more limit is breaks other after next also same goes =
      let heads = one_line line other more after is also same in
      one_way.not_both stage line next limit (subst (λ (z : List ℕ). Goes stage z next) (sym heads.0) goes) breaks

  -- one reading: a text that is read whole has one list of lines and ends at one stage
  pub one_reading : (MayEnd : Stage → Type 0) (from : Stage) (text : List ℕ) (a b : Stage) →
      IsReadWhole Goes MayEnd from text a → IsReadWhole Goes MayEnd from text b → a ≡ b
  one_reading MayEnd from text a b p q =
      (same_stop from p.lines q.lines a b [] [] p.go q.go (ap (λ (z : List ℕ). z ++ []) (sym p.text_is ∙ q.text_is)) (stops_at_end a) (stops_at_end b)).stages

  whole_as : (MayEnd : Stage → Type 0) (from : Stage) (text : List ℕ) (a : Stage) (p : IsReadWhole Goes MayEnd from text a) → joined p.lines ++ [] ≡ text
  whole_as MayEnd from text a p = append-nil (joined p.lines) ∙ sym p.text_is

  -- apart: a text that is read whole has no bad line and passes no limit
  pub whole_not_bad : (MayEnd : Stage → Type 0) (from : Stage) (text : List ℕ) (a : Stage) (first number : ℕ) →
      IsReadWhole Goes MayEnd from text a → IsFirstBad Goes Breaks MayEnd from text first number → ⊥
  unfolding Stops
  whole_not_bad MayEnd from text a first number p q =
      let same = same_stop from p.lines q.reads.lines a q.stage [] q.rest p.go q.reads.go (whole_as MayEnd from text a p ∙ q.reads.text_is) (stops_at_end a) q.no_line in
      q.not_whole (subst MayEnd same.stages p.may_end) (sym same.rests)

  pub whole_not_broken : (MayEnd : Stage → Type 0) (from : Stage) (text : List ℕ) (a : Stage) (first number : ℕ) (limit : Limit) →
      IsReadWhole Goes MayEnd from text a → IsFirstBreak Goes Breaks from text first number limit → ⊥
  whole_not_broken MayEnd from text a first number limit p q =
      let same = same_stop from p.lines q.reads.lines a q.stage [] (q.line ++ q.more) p.go q.reads.go (whole_as MayEnd from text a p ∙ q.reads.text_is)
      (stops_at_end a) (stops_at_break q.stage q.line q.more limit q.line_is q.breaks) in
      line_there q.line q.more q.line_is (sym same.rests)

  pub bad_not_broken : (MayEnd : Stage → Type 0) (from : Stage) (text : List ℕ) (first m n : ℕ) (limit : Limit) →
      IsFirstBad Goes Breaks MayEnd from text first m → IsFirstBreak Goes Breaks from text first n limit → ⊥
  unfolding Stops
  bad_not_broken MayEnd from text first m n limit p q =
      let same = same_stop from p.reads.lines q.reads.lines p.stage q.stage p.rest (q.line ++ q.more) p.reads.go q.reads.go (sym p.reads.text_is ∙ q.reads.text_is)
      p.no_line (stops_at_break q.stage q.line q.more limit q.line_is q.breaks) in
      p.no_limit q.line q.more limit q.line_is same.rests (subst (λ (z : Stage). Breaks z q.line limit) (sym same.stages) q.breaks)

  -- first: a text has at most one first bad line
  pub one_bad : (MayEnd : Stage → Type 0) (from : Stage) (text : List ℕ) (first m n : ℕ) →
      IsFirstBad Goes Breaks MayEnd from text first m → IsFirstBad Goes Breaks MayEnd from text first n → m ≡ n
  unfolding Stops
  one_bad MayEnd from text first m n p q =
      let same = same_stop from p.reads.lines q.reads.lines p.stage q.stage p.rest q.rest p.reads.go q.reads.go (sym p.reads.text_is ∙ q.reads.text_is) p.no_line q.no_line in
      p.reads.number_is ∙ (ap (λ (z : List (List ℕ)). first + length z) same.lines ∙ sym q.reads.number_is)

  -- and at most one first line that passes a limit, with one limit
  pub one_break : (from : Stage) (text : List ℕ) (first m n : ℕ) (a b : Limit) →
      IsFirstBreak Goes Breaks from text first m a → IsFirstBreak Goes Breaks from text first n b → (m ≡ n) × (a ≡ b)
  one_break from text first m n a b p q =
      let same = same_stop from p.reads.lines q.reads.lines p.stage q.stage (p.line ++ p.more) (q.line ++ q.more) p.reads.go q.reads.go (sym p.reads.text_is ∙ q.reads.text_is)
      (stops_at_break p.stage p.line p.more a p.line_is p.breaks) (stops_at_break q.stage q.line q.more b q.line_is q.breaks) in
      let heads = one_line p.line q.line p.more q.more p.line_is q.line_is same.rests in
      let here : Breaks q.stage q.line a = subst (λ (z : Stage). Breaks z q.line a) same.stages (subst (λ (z : List ℕ). Breaks p.stage z a) heads.0 p.breaks) in (
        p.reads.number_is ∙ (ap (λ (z : List (List ℕ)). first + length z) same.lines ∙ sym q.reads.number_is),
        one_way.one_limit q.stage q.line a b here q.breaks,
      )

module _ {Stage Limit : Type 0} (Goes : Stage → List ℕ → Stage → Type 0) (Breaks : Stage → List ℕ → Limit → Type 0) (MayEnd : Stage → Type 0) where
  -- the first bad line, where no line is left: the text ends too early, or goes on without a line feed
  pub bad_end : (from : Stage) (text : List ℕ) (first : ℕ) (stage : Stage) (rest : List ℕ) (number : ℕ) → ReadTo Goes from text first stage rest number →
      ((line more : List ℕ) → IsLine line → rest ≡ line ++ more → ⊥) → (MayEnd stage → rest ≢ []) → IsFirstBad Goes Breaks MayEnd from text first number
  bad_end from text first stage rest number reads none not_whole = record {
    stage = stage;
    rest = rest;
    reads = reads;
    not_whole = not_whole;
    no_line = λ line more next is same goes. none line more is same;
    no_limit = λ line more limit is same breaks. none line more is same;
  }

  -- the first bad line, where the line that stands there neither goes on nor passes a limit
  pub bad_line : (from : Stage) (text : List ℕ) (first : ℕ) (stage : Stage) (rest : List ℕ) (number : ℕ) (line more : List ℕ) → ReadTo Goes from text first stage rest number →
      IsLine line → rest ≡ line ++ more → ((next : Stage) → Goes stage line next → ⊥) → ((limit : Limit) → Breaks stage line limit → ⊥) →
      IsFirstBad Goes Breaks MayEnd from text first number
  bad_line from text first stage rest number line more reads is there not_going not_breaking = record {
    stage = stage;
    rest = rest;
    reads = reads;
    not_whole = λ may_end none. line_there line more is (sym there ∙ none);
    no_line = λ other after next also same goes.
        not_going next (subst (λ (z : List ℕ). Goes stage z next) (one_line other line after more also is (sym same ∙ there)).0 goes);
    no_limit = λ other after limit also same breaks.
        not_breaking limit (subst (λ (z : List ℕ). Breaks stage z limit) (one_line other line after more also is (sym same ∙ there)).0 breaks);
  }

  -- the first line that passes a limit
  pub break_line : (from : Stage) (text : List ℕ) (first : ℕ) (stage : Stage) (rest : List ℕ) (number : ℕ) (line more : List ℕ) (limit : Limit) →
      ReadTo Goes from text first stage rest number → IsLine line → rest ≡ line ++ more → Breaks stage line limit →
      IsFirstBreak Goes Breaks from text first number limit
  break_line from text first stage rest number line more limit reads is there breaks = record {
    stage = stage;
    line = line;
    more = more;
    reads = subst (λ (z : List ℕ). ReadTo Goes from text first stage z number) there reads;
    line_is = is;
    breaks = breaks;
  }
