-- One more body at the end of a deck.
use Rattle.std.proofs.Common.{◌≡◌, ◌≢◌, ℕ, zero, suc, ◌+◌, ◌≤◌, ◌<◌, Bool, true, false, ◌||◌, List, [], ◌∷◌, ◌++◌, map, length, drop, get_or, slice_get, Some, inl, inr, refl, sym, ap, ◌∙◌, subst, arith, length-append, append_assoc, append-nil, ◌⊎◌, All, AllPairs}
use Rattle.std.specs.Prelude.{nat_eq, IsSomeAnd}
use Rattle.std.specs.List.{list_any}
use Rattle.std.proofs.lemmas.Bool.{cases_lt, eqb-true}
use Rattle.std.proofs.lemmas.List.{map-append, get_or-map, drop-append-le, length-map}
use Rattle.std.proofs.lemmas.List.Elements.{All-push}
use Rattle.std.proofs.lemmas.List.Quantifiers.{all_pairs_push}
use Rattle.std.proofs.lemmas.List.Folds.{list_any-append}
use Rattle.std.proofs.lemmas.Option.{slice_get-get_or, get_or_from_slice_get}
use Rattle.std.proofs.Math.ListN.{get_or-append}
use Rattle.std.proofs.Math.Seq.{get_or-append_seam, drop-length}
use Rattle.std.proofs.Math.Bool.{or-false}
use Rattle.sc_deck.specs.declared.item.Item.{Item}
use Rattle.sc_deck.specs.declared.item.Item.TheVariants as item
use Rattle.sc_deck.specs.declared.key.Key.{Key}
use Rattle.sc_deck.specs.declared.entry.Entry.{Entry}
use Rattle.sc_deck.specs.Bodies.{IsBody, wires_of}
use Rattle.sc_deck.specs.Items.{callees_of}
use Rattle.sc_deck.specs.Keys.{HasLengths, ArgInRange, params_of}
use Rattle.sc_deck.specs.Modules.{Module, key_of, body_of, height_over, heights_of, reach_over, reaches_of, greatest_called, calls, is_called}
use Rattle.sc_deck.specs.Decks.{CallsFit, CallEarlier, IsNewKey, IsDeck}
use Rattle.sc_deck.specs.Entries.{module_in, modules_in, height_in, reach_in, KeepsDeck}
use Rattle.sc_gate.specs.Numbers.{both}
use Rattle.sc_deck.proofs.EarlierLemmas.{from_earlier-push}

CallEarlier-push : (before modules : List Module) (m : Module) → CallEarlier before modules → CallsFit (before ++ modules) m.items → CallEarlier before (modules ++ m ∷ [])
CallEarlier-push before [] m earlier fit = (subst (λ (ms : List Module). CallsFit ms m.items) (append-nil before) fit, tt)
CallEarlier-push before (n ∷ modules) m earlier fit =
    (earlier.0, CallEarlier-push (before ++ n ∷ []) modules m earlier.1 (subst (λ (ms : List Module). CallsFit ms m.items) (sym (append_assoc before (n ∷ []) modules)) fit))

pub IsDeck-push : (modules : List Module) (m : Module) → IsDeck modules → IsNewKey modules m.key → HasLengths m.key → All ArgInRange m.key.args → IsBody (body_of m) → length modules < 65536 → CallsFit modules m.items → IsDeck (modules ++ m ∷ [])
IsDeck-push modules m deck new lengths args body room fit = record {
  distinct = subst (λ (ks : List Key). AllPairs (λ k l. k ≢ l) ks) (sym (map-append key_of modules (m ∷ [])))
      (all_pairs_push (λ k l. k ≢ l) (map key_of modules) m.key deck.distinct
      (λ k d below. let within : k < length modules = subst (λ (n : ℕ). k < n) (length-map modules key_of) below in
      λ e. new k m within (sym (get_or-map key_of modules k m d within) ∙ e)));
  lengths = All-push (λ n. HasLengths n.key) modules m deck.lengths lengths;
  args = All-push (λ n. All ArgInRange n.key.args) modules m deck.args args;
  bodies = All-push (λ n. IsBody (body_of n)) modules m deck.bodies body;
  calls = CallEarlier-push [] modules m deck.calls fit;
  few = rw (length-append modules (m ∷ [])) (omega arith);
}

-- a callee is an earlier body
pub callee_there : {X : Type 0} (P : X → Type 0) (xs : List X) (j : ℕ) → IsSomeAnd (slice_get xs j) P → j < length xs
callee_there P [] j there = absurd there
callee_there P (x ∷ xs) zero there = omega arith
callee_there P (x ∷ xs) (suc j) there = let h = callee_there P xs j there in omega arith

not_itself : (n j : ℕ) → j < n → nat_eq n j ≡ false
not_itself n j below = by (nat_eq n j) refl
  where
    by : (b : Bool) → nat_eq n j ≡ b → nat_eq n j ≡ false
    by true e = let h = eqb-true n j e in absurd (omega arith)
    by false e = e

calls_no_later : (modules : List Module) (items : List Item) → CallsFit modules items → list_any (nat_eq (length modules)) (callees_of items) ≡ false
calls_no_later modules [] fit = refl
calls_no_later modules (item.Fresh class n ∷ items) fit = calls_no_later modules items fit.1
calls_no_later modules (item.Gate gate ∷ items) fit = calls_no_later modules items fit.1
calls_no_later modules (item.Gates gate turns ∷ items) fit = calls_no_later modules items fit.1
calls_no_later modules (item.Call callee wires ∷ items) fit = λ i. not_itself (length modules) callee (callee_there _ modules callee fit.0) i || calls_no_later modules items fit.1 i
calls_no_later modules (item.Calls callee wires turns ∷ items) fit = λ i. not_itself (length modules) callee (callee_there _ modules callee fit.0) i || calls_no_later modules items fit.1 i

-- an earlier body is called if it was called, or is now
is_called-push : (modules : List Module) (m : Module) (i : ℕ) → i < length modules → is_called (modules ++ m ∷ []) i ≡ (is_called modules i || calls i m)
is_called-push modules m i below =
    ap (list_any (calls i)) (drop-append-le (i + 1) modules (m ∷ []) (omega arith))
    ∙ list_any-append (calls i) (drop (i + 1) modules) (m ∷ [])
    ∙ ap (λ (b : Bool). is_called modules i || b) (or-false (calls i m))

-- the last body is not called
last_uncalled : (modules : List Module) (m : Module) → is_called (modules ++ m ∷ []) (length modules) ≡ false
last_uncalled modules m =
    let e : length modules + 1 ≡ length (modules ++ m ∷ []) = sym (length-append modules (m ∷ [])) in
    ap (λ (ms : List Module). list_any (calls (length modules)) ms) (ap (λ (n : ℕ). drop n (modules ++ m ∷ [])) e ∙ drop-length (modules ++ m ∷ []))

-- the marks after a push
marks_push : (modules : List Module) (m : Module) (marks now : List Bool) → CallsFit modules m.items → length marks ≡ length modules → length now ≡ length modules + 1 →
    ((i : ℕ) → i < length modules → slice_get marks i ≡ Some (is_called modules i)) →
    ((i : ℕ) → i < length (marks ++ false ∷ []) → get_or now i false ≡ (get_or (marks ++ false ∷ []) i false || list_any (nat_eq i) (callees_of m.items))) →
    (i : ℕ) → i < length modules + 1 → slice_get now i ≡ Some (is_called (modules ++ m ∷ []) i)
marks_push modules m marks now fit old new were are i below =
    slice_get-get_or now i false (subst (λ (n : ℕ). i < n) (sym new) below) ∙ ap Some (are i (subst (λ (n : ℕ). i < n) (sym longer) below) ∙ by (cases_lt i (length modules)))
  where
    longer : length (marks ++ false ∷ []) ≡ length modules + 1
    longer = length-append marks (false ∷ []) ∙ ap (λ (n : ℕ). n + 1) old

    by : (i < length modules) ⊎ (length modules ≤ i) → (get_or (marks ++ false ∷ []) i false || list_any (nat_eq i) (callees_of m.items)) ≡ is_called (modules ++ m ∷ []) i
    by (inl early) =
        let there : i < length marks = subst (λ (n : ℕ). i < n) (sym old) early in
        ap (λ (b : Bool). b || calls i m) (get_or-append marks (false ∷ []) false i there ∙ get_or_from_slice_get marks i (is_called modules i) false (were i early))
        ∙ sym (is_called-push modules m i early)
    by (inr late) =
        let at : i ≡ length modules = omega arith in
        ap (λ (k : ℕ). get_or (marks ++ false ∷ []) k false || list_any (nat_eq k) (callees_of m.items)) at
        ∙ ap (λ (b : Bool). get_or (marks ++ false ∷ []) (length modules) false || b) (calls_no_later modules m.items fit)
        ∙ ap (λ (b : Bool). b || false) (ap (λ (k : ℕ). get_or (marks ++ false ∷ []) k false) (sym old) ∙ get_or-append_seam marks false [] false)
        ∙ sym (last_uncalled modules m)
        ∙ ap (is_called (modules ++ m ∷ [])) (sym at)

pub KeepsDeck-push : (entries : List (Key × Entry)) (marks now : List Bool) (key : Key) (entry : Entry) → KeepsDeck entries marks →
    IsNewKey (modules_in entries) key → HasLengths key → All ArgInRange key.args → entry.body.params ≡ params_of key → IsBody entry.body → length (modules_in entries) < 65536 → CallsFit (modules_in entries) entry.body.items →
    entry.height ≡ greatest_called (map height_in entries) entry.body.items + 1 →
    entry.reach ≡ greatest_called (map reach_in entries) entry.body.items + both (wires_of entry.body) →
    length now ≡ length entries + 1 →
    ((i : ℕ) → i < length (marks ++ false ∷ []) → get_or now i false ≡ (get_or (marks ++ false ∷ []) i false || list_any (nat_eq i) (callees_of entry.body.items))) →
    KeepsDeck (entries ++ (key, entry) ∷ []) now
KeepsDeck-push entries marks now key entry kept new lengths args params body room fit height reach long are =
    let m : Module = module_in (key, entry) in
    let as_body : entry.body ≡ body_of m = λ i. record { params = params i; items = entry.body.items } in
    let more : modules_in (entries ++ (key, entry) ∷ []) ≡ modules_in entries ++ m ∷ [] = map-append module_in entries ((key, entry) ∷ []) in
    let same : length (modules_in entries) ≡ length entries = length-map entries module_in in
    record {
      sound = subst IsDeck (sym more) (IsDeck-push (modules_in entries) m kept.sound new lengths args (subst IsBody as_body body) room fit);
      params = All-push (λ (p : Key × Entry). p.1.body.params ≡ params_of p.0) entries (key, entry) kept.params params;
      heights = map-append height_in entries ((key, entry) ∷ [])
          ∙ (λ i. kept.heights i ++ (height ∙ ap (λ (hs : List ℕ). height_over hs m) kept.heights) i ∷ [])
          ∙ sym (from_earlier-push height_over [] (modules_in entries) m)
          ∙ ap heights_of (sym more);
      reaches = map-append reach_in entries ((key, entry) ∷ [])
          ∙ (λ i. kept.reaches i ++ (reach ∙ (λ j. greatest_called (map reach_in entries) entry.body.items + both (wires_of (as_body j))) ∙ ap (λ (rs : List ℕ). reach_over rs m) kept.reaches) i ∷ [])
          ∙ sym (from_earlier-push reach_over [] (modules_in entries) m)
          ∙ ap reaches_of (sym more);
      marked = long ∙ sym (length-append entries ((key, entry) ∷ []));
      called = λ i below. marks_push (modules_in entries) m marks now fit (kept.marked ∙ sym same) (long ∙ ap (λ (n : ℕ). n + 1) (sym same))
          (λ k h. kept.called k (subst (λ (n : ℕ). k < n) same h)) are i (subst (λ (n : ℕ). i < n) (length-append entries ((key, entry) ∷ []) ∙ ap (λ (n : ℕ). n + 1) (sym same)) below)
          ∙ ap (λ (ms : List Module). Some (is_called ms i)) (sym more);
    }
