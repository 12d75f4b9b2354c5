-- Lines behind lines, and the loops over the items and the modules of a hierarchical text.
use Rattle.std.proofs.Common.{◌≡◌, ◌≢◌, ℕ, inl, inr, All, ◌+◌, ◌-◌, ◌<◌, ◌≤◌, ◌^◌, Bool, true, false, List, [], ◌∷◌, ◌++◌, length, refl, sym, ap, ◌∙◌, subst, arith, append_assoc, length-append, Result, Ok, Err}
use Rattle.std.specs.Prelude.{codes, IfOk, IfErr}
use Rattle.std.specs.Fmt.{digits}
use Rattle.std.proofs.lemmas.List.Concat.{flat_map-append}
use Rattle.std.proofs.lemmas.List.Elements.{All-push}
use Rattle.sc_base.specs.Lines.{IsLine, joined, GoThrough, ReadTo, IsReadWhole, IsFirstBad, IsFirstBreak}
use Rattle.sc_base.proofs.TextLines.{read_nothing, read_more, read_whole, bad_line, bad_end}
use Rattle.sc_base.proofs.FeedLemmas.{line_from, no_feed_from_test, number_line-IsLine}
use Rattle.sc_gate.specs.Lines.{number_line}
use Rattle.sc_base.proofs.NumeralLemmas.{head_is}
use Rattle.sc_base.specs.NameTexts.{IsNameText}
use Rattle.sc_base.specs.declared.lines.Lines.{Lines}
use Rattle.sc_base.specs.declared.names.Class.TheVariants.{Q, C}
use Rattle.sc_deck.specs.declared.key.Key.{Key}
use Rattle.sc_deck.specs.Bodies.{Contents}
use Rattle.sc_deck.specs.declared.item.Item.{Item}
use Rattle.sc_deck.specs.declared.item.Item.TheVariants as item
use Rattle.sc_deck.specs.Decks.{IsWhole}
use Rattle.sc_deck.specs.Hierarchical.{IsSound}
use Rattle.sc_deck.specs.Keys.{params_of, main_key}
use Rattle.sc_deck.specs.Modules.{Module, heights_of, height_over}
use Rattle.sc_deck.proofs.EarlierLemmas.{from_earlier-push}
use Rattle.sc_read.specs.declared.hier.HierFault.{HierFault}
use Rattle.sc_read.specs.declared.hier.HierFault.TheVariants.{BadQasm, TooWide, TooLong, TooDeep, TooManyInstances, Memory}
use Rattle.sc_read.specs.HierLines.{ItemText}
use Rattle.sc_read.specs.HierStages.{Stage, Title, version_of, Between, Within, Over, Limit, Instances, Wires, Items, Depth, InPlace, Passes, Goes, Breaks, MayEnd}
use Rattle.sc_read.specs.HierSteps.{IsBegun, IsLineFault, IsFaultFrom, IsSoundSoFar, Begins, GoesOn, ItemsRead, ModuleRead, EndsWithMain, IsEndFault, module_of}
use Rattle.sc_read.proofs.HierItems.{not_gate}
use Rattle.sc_read.proofs.HierModules.{main_last_key, last_main_key}

-- LINES BEHIND LINES
pub go_then : (from : Stage) (lines : List (List ℕ)) (stage : Stage) (more : List (List ℕ)) (to : Stage) → GoThrough Goes from lines stage → GoThrough Goes stage more to → GoThrough Goes from (lines ++ more) to
go_then from [] stage more to p q = subst (λ (z : Stage). GoThrough Goes z more to) (sym p) q
go_then from (line ∷ lines) stage more to p q = (p.0, p.1, p.2, go_then p.0 lines stage more to p.3 q)

text_then : (text rest last : List ℕ) (lines more : List (List ℕ)) → text ≡ joined lines ++ rest → rest ≡ joined more ++ last → text ≡ joined (lines ++ more) ++ last
text_then text rest last lines more p q =
    p ∙ (ap (λ (z : List ℕ). joined lines ++ z) q ∙ (sym (append_assoc (joined lines) (joined more) last)
    ∙ ap (λ (z : List ℕ). z ++ last) (sym (flat_map-append (λ (line : List ℕ). line) lines more))))

pub read_then : (from : Stage) (text : List ℕ) (first : ℕ) (stage : Stage) (rest : List ℕ) (number : ℕ) (to : Stage) (last : List ℕ) (end : ℕ) →
    ReadTo Goes from text first stage rest number → ReadTo Goes stage rest number to last end → ReadTo Goes from text first to last end
read_then from text first stage rest number to last end p q = record {
  lines = p.lines ++ q.lines;
  text_is = text_then text rest last p.lines q.lines p.text_is q.text_is;
  go = go_then from p.lines stage q.lines to p.go q.go;
  number_is = omega (arith, p.number_is, q.number_is, length-append p.lines q.lines);
}

bad_then : (from : Stage) (text : List ℕ) (first : ℕ) (stage : Stage) (rest : List ℕ) (number line : ℕ) → ReadTo Goes from text first stage rest number →
    IsFirstBad Goes Breaks MayEnd stage rest number line → IsFirstBad Goes Breaks MayEnd from text first line
bad_then from text first stage rest number line p q = record {
  stage = q.stage;
  rest = q.rest;
  reads = read_then from text first stage rest number q.stage q.rest line p q.reads;
  not_whole = q.not_whole;
  no_line = q.no_line;
  no_limit = q.no_limit;
}

break_then : (from : Stage) (text : List ℕ) (first : ℕ) (stage : Stage) (rest : List ℕ) (number line : ℕ) (limit : Limit) → ReadTo Goes from text first stage rest number →
    IsFirstBreak Goes Breaks stage rest number line limit → IsFirstBreak Goes Breaks from text first line limit
break_then from text first stage rest number line limit p q = record {
  stage = q.stage;
  line = q.line;
  more = q.more;
  reads = read_then from text first stage rest number q.stage (q.line ++ q.more) line p q.reads;
  line_is = q.line_is;
  breaks = q.breaks;
}

pub fault_then : (from : Stage) (text : List ℕ) (first : ℕ) (stage : Stage) (rest : List ℕ) (number : ℕ) (fault : HierFault) → ReadTo Goes from text first stage rest number →
    IsFaultFrom stage rest number fault → IsFaultFrom from text first fault
fault_then from text first stage rest number (BadQasm n) p q = bad_then from text first stage rest number n p q
fault_then from text first stage rest number (TooWide n) p q = break_then from text first stage rest number n _ p q
fault_then from text first stage rest number (TooLong n) p q = break_then from text first stage rest number n _ p q
fault_then from text first stage rest number (TooDeep n) p q = break_then from text first stage rest number n _ p q
fault_then from text first stage rest number (TooManyInstances n) p q = break_then from text first stage rest number n _ p q
fault_then from text first stage rest number Memory p q = tt

bad_here : (stage : Stage) (line more text : List ℕ) (number n : ℕ) → IsLine line → text ≡ line ++ more → n ≡ number → ((next : Stage) → InPlace stage line next → ⊥) →
    IsFirstBad Goes Breaks MayEnd stage text number n
bad_here stage line more text number n is there same none =
    subst (λ (z : ℕ). IsFirstBad Goes Breaks MayEnd stage text number z) (sym same)
    (bad_line Goes Breaks MayEnd stage text number stage text number line more (read_nothing Goes stage text number) is there
    (λ next goes. none next goes.in_place) (λ limit breaks. none breaks.next breaks.in_place))

break_here : (stage : Stage) (line more text : List ℕ) (number n : ℕ) (limit : Limit) → IsLine line → text ≡ line ++ more → n ≡ number → Breaks stage line limit →
    IsFirstBreak Goes Breaks stage text number n limit
break_here stage line more text number n limit is there same breaks = record {
  stage = stage;
  line = line;
  more = more;
  reads = subst (λ (z : ℕ). ReadTo Goes stage text number stage (line ++ more) z) (sym same)
      (subst (λ (z : List ℕ). ReadTo Goes stage text number stage z number) there (read_nothing Goes stage text number));
  line_is = is;
  breaks = breaks;
}

-- the line that comes is at fault
pub fault_here : (stage : Stage) (line more text : List ℕ) (number : ℕ) (fault : HierFault) → IsLine line → text ≡ line ++ more → IsLineFault stage line number fault → IsFaultFrom stage text number fault
fault_here stage line more text number (BadQasm n) is there p = bad_here stage line more text number n is there p.0 p.1
fault_here stage line more text number (TooWide n) is there p = break_here stage line more text number n _ is there p.0 p.1
fault_here stage line more text number (TooLong n) is there p = break_here stage line more text number n _ is there p.0 p.1
fault_here stage line more text number (TooDeep n) is there p = break_here stage line more text number n _ is there p.0 p.1
fault_here stage line more text number (TooManyInstances n) is there p = break_here stage line more text number n _ is there p.0 p.1
fault_here stage line more text number Memory is there p = tt

-- THE ITEMS OF A MODULE
-- so far was read of a module whose body was this one at the first line
pub record ItemsSoFar (turns : Bool) (modules : List Module) (was now : Contents) (text rest : List ℕ) (first number : ℕ) : Type 0 where
  pub params : now.params ≡ was.params
  pub begun : IsBegun modules now
  pub reads : (key : Key) → was.params ≡ params_of key → ReadTo Goes (Within turns modules (module_of key was)) text first (Within turns modules (module_of key now)) rest number
  pub bound : number + length rest ≤ first + length text

pub items_begin : (turns : Bool) (modules : List Module) (body : Contents) (text : List ℕ) (first : ℕ) → IsBegun modules body → ItemsSoFar turns modules body body text text first first
items_begin turns modules body text first begun = record {
  params = refl;
  begun = begun;
  reads = λ key same. read_nothing Goes (Within turns modules (module_of key body)) text first;
  bound = omega arith;
}

pub items_more : (turns : Bool) (modules : List Module) (was now next : Contents) (text rest : List ℕ) (first number : ℕ) (line more : List ℕ) (after : ℕ) →
    ItemsSoFar turns modules was now text rest first number → IsLine line → rest ≡ line ++ more → after ≡ number + 1 → GoesOn turns modules now line next →
    after + length more ≤ number + length rest → ItemsSoFar turns modules was next text more first after
items_more turns modules was now next text rest first number line more after p is there step g shorter = record {
  params = g.params ∙ p.params;
  begun = g.begun;
  reads = λ key same. subst (λ (z : ℕ). ReadTo Goes (Within turns modules (module_of key was)) text first (Within turns modules (module_of key next)) more z) (sym step)
      (read_more Goes (Within turns modules (module_of key was)) text first (Within turns modules (module_of key now)) rest number line more (Within turns modules (module_of key next))
      (p.reads key same) is there (g.goes key (p.params ∙ same)));
  bound = omega (arith, p.bound, shorter);
}

pub items_fault : (turns : Bool) (modules : List Module) (was now : Contents) (text rest : List ℕ) (first number : ℕ) (line more : List ℕ) (fault : HierFault) →
    ItemsSoFar turns modules was now text rest first number → IsLine line → rest ≡ line ++ more →
    ((key : Key) → now.params ≡ params_of key → IsLineFault (Within turns modules (module_of key now)) line number fault) →
    (key : Key) → was.params ≡ params_of key → IsFaultFrom (Within turns modules (module_of key was)) text first fault
items_fault turns modules was now text rest first number line more fault p is there bad key same =
    fault_then (Within turns modules (module_of key was)) text first (Within turns modules (module_of key now)) rest number fault (p.reads key same)
    (fault_here (Within turns modules (module_of key now)) line more rest number fault is there (bad key (p.params ∙ same)))

pub items_end : (turns : Bool) (modules : List Module) (was now : Contents) (text rest : List ℕ) (first number : ℕ) → ItemsSoFar turns modules was now text rest first number →
    ((line more : List ℕ) → IsLine line → rest ≡ line ++ more → ⊥) → (key : Key) → was.params ≡ params_of key →
    IsFaultFrom (Within turns modules (module_of key was)) text first (BadQasm number)
items_end turns modules was now text rest first number p none key same =
    bad_end Goes Breaks MayEnd (Within turns modules (module_of key was)) text first (Within turns modules (module_of key now)) rest number (p.reads key same) none (λ end empty. end)

-- THE MODULES
pub end_is_line : IsLine (codes "end\n")
end_is_line = line_from (codes "end") (no_feed_from_test (codes "end") refl)

one_line_read : (stage : Stage) (line more : List ℕ) (number after : ℕ) (next : Stage) → IsLine line → Goes stage line next → after ≡ number + 1 → ReadTo Goes stage (line ++ more) number next more after
one_line_read stage line more number after next is goes step =
    subst (λ (z : ℕ). ReadTo Goes stage (line ++ more) number next more z) (sym step)
    (read_more Goes stage (line ++ more) number stage (line ++ more) number line more next (read_nothing Goes stage (line ++ more) number) is refl goes)

pub module_read : (turns : Bool) (deck new : List Module) (line : List ℕ) (number : ℕ) (before after : Lines) (key : Key) (was now : Contents) → IsLine line → Begins deck line key was →
    ItemsRead turns deck was now before after → before.number ≡ number + 1 → new ≡ deck ++ module_of key now ∷ [] → ModuleRead turns deck new line number before after (module_of key now)
module_read turns deck new line number before after key was now is b r step pushed = record {
  end = r.number;
  pushed = pushed;
  reads = read_then (Between turns deck) (line ++ before.rest.now) number (Within turns deck (module_of key was)) before.rest.now before.number
      (Within turns deck (module_of key now)) (codes "end\n" ++ after.rest.now) r.number
      (one_line_read (Between turns deck) line before.rest.now number before.number (Within turns deck (module_of key was)) is (b.goes turns) step) (r.reads key b.params);
  number_is = r.number_is;
  name = b.name;
  short = r.begun.short;
  shallow = omega (arith, r.begun.shallow);
}

pub module_fault : (turns : Bool) (deck : List Module) (line rest : List ℕ) (number after : ℕ) (key : Key) (was : Contents) (fault : HierFault) → IsLine line → Begins deck line key was →
    after ≡ number + 1 → IsFaultFrom (Within turns deck (module_of key was)) rest after fault → IsFaultFrom (Between turns deck) (line ++ rest) number fault
module_fault turns deck line rest number after key was fault is b step bad =
    fault_then (Between turns deck) (line ++ rest) number (Within turns deck (module_of key was)) rest after fault
    (one_line_read (Between turns deck) line rest number after (Within turns deck (module_of key was)) is (b.goes turns) step) bad

pub sound_more : (modules : List Module) (m : Module) → IsSoundSoFar modules → IsNameText m.key.name → length m.items ≤ 1048576 → height_over (heights_of modules) m ≤ 256 →
    IsSoundSoFar (modules ++ m ∷ [])
sound_more modules m p name short shallow = record {
  names = All-push (λ (n : Module). IsNameText n.key.name) modules m p.names name;
  shallow = subst (λ (z : List ℕ). All (λ height. height ≤ 256) z) (sym (from_earlier-push height_over [] modules m))
      (All-push (λ (height : ℕ). height ≤ 256) (heights_of modules) (height_over (heights_of modules) m) p.shallow shallow);
  short = All-push (λ (n : Module). length n.items ≤ 1048576) modules m p.short short;
}

-- so far modules were read, and the next line begins one more
pub record ModulesSoFar (turns : Bool) (text : List ℕ) (first : ℕ) (modules : List Module) (rest : List ℕ) (number : ℕ) : Type 0 where
  pub reads : ReadTo Goes (Between turns []) text first (Between turns modules) rest number
  pub sound : IsSoundSoFar modules
  pub bound : number + length rest ≤ first + length text

pub modules_begin : (turns : Bool) (text : List ℕ) (first : ℕ) → ModulesSoFar turns text first [] text first
modules_begin turns text first = record {
  reads = read_nothing Goes (Between turns []) text first;
  sound = record { names = λ k d within. absurd (omega (arith, within)); shallow = λ k d within. absurd (omega (arith, within)); short = λ k d within. absurd (omega (arith, within)) };
  bound = omega arith;
}

pub no_limit_between : (turns : Bool) (modules : List Module) (limit : Limit) → Passes (Between turns modules) limit → ⊥
no_limit_between turns modules Instances p = p
no_limit_between turns modules Wires p = p
no_limit_between turns modules Items p = p
no_limit_between turns modules Depth p = p

pub no_limit_over : (modules : List Module) (limit : Limit) → Passes (Over modules) limit → ⊥
no_limit_over modules Instances p = p
no_limit_over modules Wires p = p
no_limit_over modules Items p = p
no_limit_over modules Depth p = p

-- up to the line `end` of one more module
reads_module : (turns : Bool) (text : List ℕ) (first : ℕ) (modules : List Module) (rest : List ℕ) (number : ℕ) (now : List Module) (line : List ℕ) (before after : Lines) (m : Module) →
    ModulesSoFar turns text first modules rest number → rest ≡ line ++ before.rest.now → (r : ModuleRead turns modules now line number before after m) →
    ReadTo Goes (Between turns []) text first (Within turns modules m) (codes "end\n" ++ after.rest.now) r.end
reads_module turns text first modules rest number now line before after m p there r =
    read_then (Between turns []) text first (Between turns modules) (line ++ before.rest.now) number (Within turns modules m) (codes "end\n" ++ after.rest.now) r.end
    (subst (λ (z : List ℕ). ReadTo Goes (Between turns []) text first (Between turns modules) z number) there p.reads) r.reads

pub modules_more : (turns : Bool) (text : List ℕ) (first : ℕ) (modules : List Module) (rest : List ℕ) (number : ℕ) (now : List Module) (line : List ℕ) (before after : Lines) (m : Module) →
    ModulesSoFar turns text first modules rest number → rest ≡ line ++ before.rest.now → ModuleRead turns modules now line number before after m → m.key ≢ main_key →
    after.number + length after.rest.now ≤ number + length rest → ModulesSoFar turns text first now after.rest.now after.number
modules_more turns text first modules rest number now line before after m p there r other shorter =
    subst (λ (z : List Module). ModulesSoFar turns text first z after.rest.now after.number) (sym r.pushed) (record {
      reads = subst (λ (z : ℕ). ReadTo Goes (Between turns []) text first (Between turns (modules ++ m ∷ [])) after.rest.now z) (sym r.number_is)
          (read_more Goes (Between turns []) text first (Within turns modules m) (codes "end\n" ++ after.rest.now) r.end (codes "end\n") after.rest.now (Between turns (modules ++ m ∷ []))
          (reads_module turns text first modules rest number now line before after m p there r) end_is_line refl
          (record {
            in_place = inr (inl (record { not_main = other; line_is = refl; next_is = refl }));
            within = no_limit_between turns (modules ++ m ∷ []);
          }));
      sound = sound_more modules m p.sound r.name r.short r.shallow;
      bound = omega (arith, p.bound, shorter);
    })

over_read : (turns : Bool) (text : List ℕ) (first : ℕ) (modules : List Module) (rest : List ℕ) (number : ℕ) (now : List Module) (line : List ℕ) (before after : Lines) (m : Module) →
    ModulesSoFar turns text first modules rest number → rest ≡ line ++ before.rest.now → ModuleRead turns modules now line number before after m → IsWhole (modules ++ m ∷ []) →
    ReadTo Goes (Between turns []) text first (Over (modules ++ m ∷ [])) after.rest.now after.number
over_read turns text first modules rest number now line before after m p there r whole =
    subst (λ (z : ℕ). ReadTo Goes (Between turns []) text first (Over (modules ++ m ∷ [])) after.rest.now z) (sym r.number_is)
    (read_more Goes (Between turns []) text first (Within turns modules m) (codes "end\n" ++ after.rest.now) r.end (codes "end\n") after.rest.now (Over (modules ++ m ∷ []))
    (reads_module turns text first modules rest number now line before after m p there r) end_is_line refl
    (record {
      in_place = inr (inr (record { whole = whole; line_is = refl; next_is = refl }));
      within = no_limit_over (modules ++ m ∷ []);
    }))

pub modules_whole : (turns : Bool) (text : List ℕ) (first : ℕ) (modules : List Module) (rest : List ℕ) (number : ℕ) (now : List Module) (line : List ℕ) (before after : Lines) (m : Module) →
    ModulesSoFar turns text first modules rest number → rest ≡ line ++ before.rest.now → ModuleRead turns modules now line number before after m → IsWhole now → after.rest.now ≡ [] →
    IsReadWhole Goes MayEnd (Between turns []) text (Over now) × IsSound now
modules_whole turns text first modules rest number now line before after m p there r whole empty =
    let whole_here : IsWhole (modules ++ m ∷ []) = subst IsWhole r.pushed whole in
    let sound : IsSoundSoFar now = subst IsSoundSoFar (sym r.pushed) (sound_more modules m p.sound r.name r.short r.shallow) in (
      subst (λ (z : List Module). IsReadWhole Goes MayEnd (Between turns []) text (Over z)) (sym r.pushed)
          (read_whole Goes MayEnd (Between turns []) text first (Over (modules ++ m ∷ [])) after.rest.now after.number
          (over_read turns text first modules rest number now line before after m p there r whole_here) empty tt),
      record { whole = whole; names = sound.names; shallow = sound.shallow; short = sound.short },
    )

pub modules_none : (turns : Bool) (text : List ℕ) (first : ℕ) (modules : List Module) (rest : List ℕ) (number : ℕ) → ModulesSoFar turns text first modules rest number →
    ((line more : List ℕ) → IsLine line → rest ≡ line ++ more → ⊥) → IsFaultFrom (Between turns []) text first (BadQasm number)
modules_none turns text first modules rest number p none =
    bad_end Goes Breaks MayEnd (Between turns []) text first (Between turns modules) rest number p.reads none (λ end empty. end)

pub modules_fault : (turns : Bool) (text : List ℕ) (first : ℕ) (modules : List Module) (rest : List ℕ) (number : ℕ) (line more : List ℕ) (fault : HierFault) →
    ModulesSoFar turns text first modules rest number → rest ≡ line ++ more → IsFaultFrom (Between turns modules) (line ++ more) number fault → IsFaultFrom (Between turns []) text first fault
modules_fault turns text first modules rest number line more fault p there bad =
    fault_then (Between turns []) text first (Between turns modules) (line ++ more) number fault
    (subst (λ (z : List ℕ). ReadTo Goes (Between turns []) text first (Between turns modules) z number) there p.reads) bad

-- the line `end` is no line of an item
pub no_item_end : (i : Item) → ItemText i (codes "end\n") → ⊥
no_item_end (item.Fresh Q n) p = absurd (let clash : 101 ≡ 113 = head_is 101 113 (codes "nd\n") (codes "bit " ++ p.digits ++ codes "\n") p.line_is in omega (arith, clash))
no_item_end (item.Fresh C n) p = absurd (let clash : 101 ≡ 99 = head_is 101 99 (codes "nd\n") (codes "bit " ++ p.digits ++ codes "\n") p.line_is in omega (arith, clash))
no_item_end (item.Gate g) p = not_gate g 101 (codes "nd\n") (omega arith) (sym p)
no_item_end (item.Call callee ws) p = absurd (let clash : 101 ≡ 99 = head_is 101 99 (codes "nd\n") _ p in omega (arith, clash))
no_item_end (item.Gates g n) p = absurd (let clash : 101 ≡ 114 = head_is 101 114 (codes "nd\n") _ p in omega (arith, clash))
no_item_end (item.Calls callee ws n) p = absurd (let clash : 101 ≡ 114 = head_is 101 114 (codes "nd\n") _ p in omega (arith, clash))

no_end : (turns : Bool) (modules : List Module) (m : Module) → m.key ≡ main_key → (IsWhole (modules ++ m ∷ []) → ⊥) → (next : Stage) → InPlace (Within turns modules m) (codes "end\n") next → ⊥
no_end turns modules m main not_whole next (inl p) = no_item_end p.item p.line_is
no_end turns modules m main not_whole next (inr (inl p)) = p.not_main main
no_end turns modules m main not_whole next (inr (inr p)) = not_whole p.whole

-- main has ended where another module was never called
pub modules_not_whole : (turns : Bool) (text : List ℕ) (first : ℕ) (modules : List Module) (rest : List ℕ) (number : ℕ) (now : List Module) (line : List ℕ) (before after : Lines) (m : Module) (n : ℕ) →
    ModulesSoFar turns text first modules rest number → rest ≡ line ++ before.rest.now → ModuleRead turns modules now line number before after m → m.key ≡ main_key → (IsWhole now → ⊥) →
    n + 1 ≡ after.number → IsFaultFrom (Between turns []) text first (BadQasm n)
modules_not_whole turns text first modules rest number now line before after m n p there r main not_whole step =
    fault_then (Between turns []) text first (Within turns modules m) (codes "end\n" ++ after.rest.now) r.end (BadQasm n) (reads_module turns text first modules rest number now line before after m p there r)
    (bad_here (Within turns modules m) (codes "end\n") after.rest.now (codes "end\n" ++ after.rest.now) r.end n end_is_line refl (omega (arith, step, r.number_is))
    (no_end turns modules m main (λ w. not_whole (subst IsWhole (sym r.pushed) w))))

-- a line stands behind the end of main
pub modules_behind : (turns : Bool) (text : List ℕ) (first : ℕ) (modules : List Module) (rest : List ℕ) (number : ℕ) (now : List Module) (line : List ℕ) (before after : Lines) (m : Module) →
    ModulesSoFar turns text first modules rest number → rest ≡ line ++ before.rest.now → ModuleRead turns modules now line number before after m → IsWhole now → after.rest.now ≢ [] →
    IsFaultFrom (Between turns []) text first (BadQasm after.number)
modules_behind turns text first modules rest number now line before after m p there r whole some = record {
  stage = Over (modules ++ m ∷ []);
  rest = after.rest.now;
  reads = over_read turns text first modules rest number now line before after m p there r (subst IsWhole r.pushed whole);
  not_whole = λ end. some;
  no_line = λ l more next is at goes. goes.in_place;
  no_limit = λ l more limit is at breaks. breaks.in_place;
}

-- THE FIRST LINE
pub version_small : (turns : Bool) → version_of turns < 2 ^ 64
version_small false = omega arith
version_small true = omega arith

pub title_is_line : (turns : Bool) → IsLine (number_line (codes "hier") (version_of turns))
title_is_line turns = number_line-IsLine (codes "hier") (version_of turns) (version_small turns) (no_feed_from_test (codes "hier") refl)

pub title_read : (text rest : List ℕ) (turns : Bool) → text ≡ number_line (codes "hier") (version_of turns) ++ rest → ReadTo Goes Title text 1 (Between turns []) rest 2
title_read text rest turns there =
    read_more Goes Title text 1 Title text 1 (number_line (codes "hier") (version_of turns)) rest (Between turns []) (read_nothing Goes Title text 1) (title_is_line turns) there
    (record { in_place = record { turns = turns; line_is = refl; next_is = refl }; within = no_limit_between turns [] })

pub title_none : (text : List ℕ) → ((turns : Bool) (rest : List ℕ) → text ≡ number_line (codes "hier") (version_of turns) ++ rest → ⊥) → IsFaultFrom Title text 1 (BadQasm 1)
title_none text none = record {
  stage = Title;
  rest = text;
  reads = read_nothing Goes Title text 1;
  not_whole = λ end. absurd end;
  no_line = λ line more next is there goes. none goes.in_place.turns more (there ∙ ap (λ (z : List ℕ). z ++ more) goes.in_place.line_is);
  no_limit = λ line more limit is there breaks. none breaks.in_place.turns more (there ∙ ap (λ (z : List ℕ). z ++ more) breaks.in_place.line_is);
}

pub whole_then : (from : Stage) (text : List ℕ) (first : ℕ) (stage : Stage) (rest : List ℕ) (number : ℕ) (to : Stage) → ReadTo Goes from text first stage rest number →
    IsReadWhole Goes MayEnd stage rest to → IsReadWhole Goes MayEnd from text to
whole_then from text first stage rest number to p q = record {
  lines = p.lines ++ q.lines;
  text_is = p.text_is ∙ (ap (λ (z : List ℕ). joined p.lines ++ z) q.text_is ∙ sym (flat_map-append (λ (line : List ℕ). line) p.lines q.lines));
  go = go_then from p.lines stage q.lines to p.go q.go;
  may_end = q.may_end;
}

-- the line `end` comes
pub items_read : (turns : Bool) (modules : List Module) (was now : Contents) (before between after : Lines) (line : List ℕ) →
    ItemsSoFar turns modules was now before.rest.now between.rest.now before.number between.number → between.rest.now ≡ line ++ after.rest.now → line ≡ codes "end\n" →
    after.number ≡ between.number + 1 → ItemsRead turns modules was now before after
items_read turns modules was now before between after line p there end step = record {
  number = between.number;
  params = p.params;
  reads = λ key same. subst (λ (z : List ℕ). ReadTo Goes (Within turns modules (module_of key was)) before.rest.now before.number (Within turns modules (module_of key now)) z between.number)
      (there ∙ ap (λ (z : List ℕ). z ++ after.rest.now) end) (p.reads key same);
  number_is = step;
  begun = p.begun;
}

pub no_title : (text : List ℕ) → ((more : List ℕ) → text ≡ codes "hier 1\n" ++ more → ⊥) → ((more : List ℕ) → text ≡ codes "hier 2\n" ++ more → ⊥) →
    (turns : Bool) (rest : List ℕ) → text ≡ number_line (codes "hier") (version_of turns) ++ rest → ⊥
unfolding digits
no_title text one two false rest is = one rest is
no_title text one two true rest is = two rest is

-- ONE MODULE MORE
-- so far modules were read, and then one more
pub record OneModule (turns : Bool) (text : List ℕ) (first : ℕ) (now : List Module) (after : Lines) : Type 0 where
  pub modules : List Module
  pub rest : List ℕ
  pub number : ℕ
  pub line : List ℕ
  pub before : Lines
  pub m : Module
  pub so_far : ModulesSoFar turns text first modules rest number
  pub there : rest ≡ line ++ before.rest.now
  pub read : ModuleRead turns modules now line number before after m
  pub bound : after.number + length after.rest.now ≤ number + length rest

pub one_module : (turns : Bool) (text : List ℕ) (first : ℕ) (modules : List Module) (rest : List ℕ) (number : ℕ) (now : List Module) (line : List ℕ) (before after : Lines) →
    ModulesSoFar turns text first modules rest number → rest ≡ line ++ before.rest.now → before.number ≡ number + 1 → (m : Module) × ModuleRead turns modules now line (before.number - 1) before after m →
    after.number + length after.rest.now ≤ number + length rest → OneModule turns text first now after
one_module turns text first modules rest number now line before after p there step r shorter =
    let same : before.number - 1 ≡ number = omega (arith, step) in
    record {
      modules = modules;
      rest = rest;
      number = number;
      line = line;
      before = before;
      m = r.0;
      so_far = p;
      there = there;
      read = subst (λ (z : ℕ). ModuleRead turns modules now line z before after r.0) same r.1;
      bound = shorter;
    }

pub module_goes_on : (turns : Bool) (text : List ℕ) (first : ℕ) (now : List Module) (after : Lines) → OneModule turns text first now after → (EndsWithMain now → ⊥) →
    ModulesSoFar turns text first now after.rest.now after.number
module_goes_on turns text first now after p other =
    modules_more turns text first p.modules p.rest p.number now p.line p.before after p.m p.so_far p.there p.read
    (λ main. other (subst EndsWithMain (sym p.read.pushed) (last_main_key p.modules p.m main))) p.bound

pub module_ends_text : (turns : Bool) (text : List ℕ) (first : ℕ) (now : List Module) (after : Lines) → OneModule turns text first now after → IsWhole now → after.rest.now ≡ [] →
    IsReadWhole Goes MayEnd (Between turns []) text (Over now) × IsSound now
module_ends_text turns text first now after p whole empty =
    modules_whole turns text first p.modules p.rest p.number now p.line p.before after p.m p.so_far p.there p.read whole empty

pub module_ends_badly : (turns : Bool) (text : List ℕ) (first : ℕ) (now : List Module) (after : Lines) → OneModule turns text first now after → EndsWithMain now →
    (fault : HierFault) → IsEndFault now after.rest.now after.number fault → IsFaultFrom (Between turns []) text first fault
module_ends_badly turns text first now after p last (BadQasm n) (inl q) =
    modules_not_whole turns text first p.modules p.rest p.number now p.line p.before after p.m n p.so_far p.there p.read
    (main_last_key p.modules p.m (subst EndsWithMain p.read.pushed last)) q.1 q.0
module_ends_badly turns text first now after p last (BadQasm n) (inr q) =
    subst (λ (z : ℕ). IsFaultFrom (Between turns []) text first (BadQasm z)) (sym q.0)
    (modules_behind turns text first p.modules p.rest p.number now p.line p.before after p.m p.so_far p.there p.read q.1 q.2)
module_ends_badly turns text first now after p last (TooWide n) q = absurd q
module_ends_badly turns text first now after p last (TooLong n) q = absurd q
module_ends_badly turns text first now after p last (TooDeep n) q = absurd q
module_ends_badly turns text first now after p last (TooManyInstances n) q = absurd q
module_ends_badly turns text first now after p last Memory q = absurd q

-- RESULTS
pub ok_then : {T E : Type 0} (r : Result T E) (P R : T → Type 0) → IfOk r P → ((x : T) → P x → R x) → IfOk r R
ok_then (Ok x) P R p f = f x p
ok_then (Err e) P R p f = tt

pub err_then : {T E : Type 0} (r : Result T E) (P R : E → Type 0) → IfErr r P → ((e : E) → P e → R e) → IfErr r R
err_then (Ok x) P R p f = tt
err_then (Err e) P R p f = f e p
