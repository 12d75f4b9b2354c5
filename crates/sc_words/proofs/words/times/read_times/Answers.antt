use Rattle.std.proofs.Common.{◌≡◌, ◌∙◌, ◌<◌, ◌==◌, ℕ, true, ap, lit<, sym, arith, length, List}
use Rattle.std.specs.List.{slice_split}
use Rattle.std.specs.Str.Iter.{split_has_more, split_pattern, split_steps, split_text}
use Rattle.std.specs.Str.Pattern.{FindsChar}
use Rattle.std.specs.declared.str.Split.{Split}
use Rattle.std.proofs.lemmas.Iterator.{YieldsList}
use Rattle.std.proofs.lemmas.Iterator.Consumers.{YieldsList-turn, YieldsList-end}
use Rattle.std.proofs.lemmas.Iterator.Splits.{YieldsList-from_str_split}
use Rattle.std.proofs.lemmas.List.{at_drop_all, length_push}
use Rattle.sc_base.specs.GateNames.{place_of}
use Rattle.sc_words.specs.Words.{times_from}
use Rattle.sc_words.proofs.WordsValues.{entry_early, entry_more, entry_refused}
use Rattle.sc_words.proofs.words.times.read_times.Goals as goal

cut : (s : Split ℕ) (text : List ℕ) (from : Split ℕ) → s ≡ from → split_text from ≡ text → split_has_more from ≡ true → split_pattern from ≡ 44
    → YieldsList (split_steps FindsChar (λ a b. b ≡ a)) (λ x. x.now) s (slice_split (λ b. b == 44) text)
cut s text from same is more pattern = YieldsList-from_str_split 44 text (lit< tt) (ap split_text same ∙ is) (ap split_has_more same ∙ more) (ap split_pattern same ∙ pattern)

abbrev parts_of : List ℕ → List (List ℕ)
parts_of text = slice_split (λ c. c == 44) text

pub returns-in_default : goal.returns-in_default
returns-in_default c =
    let t = YieldsList-turn (cut _ c.args.text.now _ c.into_iter-entry-iterator.ensures.into_iter_gives c.split-entry-items.ensures.text c.split-entry-items.ensures.has_more c.split-entry-items.ensures.pattern) c.loop-entry.yielded _ c.loop-entry.yielded_by _ _ c.in-Some.entry c.in-Some.is c.next.ensures.steps in
    sym (entry_refused (parts_of c.args.text.now) (length c.loop-entry.yielded) c.loop-entry.least c.loop-entry.times c.in-Some.entry.now t.0 t.1 (sym c.in_default.is ∙ c.read_entry.ensures.entry)) ∙ c.loop-entry.invariant.2

pub returns-then-place-least : goal.returns-then-place-least
returns-then-place-least c =
    let t = YieldsList-turn (cut _ c.args.text.now _ c.into_iter-entry-iterator.ensures.into_iter_gives c.split-entry-items.ensures.text c.split-entry-items.ensures.has_more c.split-entry-items.ensures.pattern) c.loop-entry.yielded _ c.loop-entry.yielded_by _ _ c.in-Some.entry c.in-Some.is c.next.ensures.steps in
    let early : place_of c.in-Some-read_entry.gate < c.loop-entry.least = omega (arith, c.place.ensures.place, c.if-place-least.true) in
    sym (entry_early (parts_of c.args.text.now) (length c.loop-entry.yielded) c.loop-entry.least c.loop-entry.times c.in-Some.entry.now c.in-Some-read_entry.gate c.in-Some-read_entry.duration t.0 t.1
    (sym c.in-Some-read_entry.is ∙ c.read_entry.ensures.entry) early)
    ∙ c.loop-entry.invariant.2

pub loop-entry-preserved : goal.loop-entry-preserved
loop-entry-preserved c =
    let t = YieldsList-turn (cut _ c.args.text.now _ c.into_iter-entry-iterator.ensures.into_iter_gives c.split-entry-items.ensures.text c.split-entry-items.ensures.has_more c.split-entry-items.ensures.pattern) c.loop-entry.yielded _ c.loop-entry.yielded_by _ _ c.in-Some.entry c.in-Some.is c.next.ensures.steps in
    let more = entry_more (parts_of c.args.text.now) (length c.loop-entry.yielded) c.loop-entry.least c.loop-entry.times c.in-Some.entry.now c.in-Some-read_entry.gate c.in-Some-read_entry.duration t.0 t.1
    (sym c.in-Some-read_entry.is ∙ c.read_entry.ensures.entry) (omega (arith, c.place.ensures.place, c.if-place-least.false)) in
    (tt, tt, rw (length_push c.loop-entry.yielded c.in-Some.entry, c.place-least.ensures.place, c.set.ensures) (sym more ∙ c.loop-entry.invariant.2))

pub returns : goal.returns
returns c =
    let t = YieldsList-end (cut _ c.args.text.now _ c.into_iter-entry-iterator.ensures.into_iter_gives c.split-entry-items.ensures.text c.split-entry-items.ensures.has_more c.split-entry-items.ensures.pattern) c.loop-entry.yielded _ c.loop-entry.yielded_by _ _ c.in-None.is c.next.ensures.steps in
    sym (at_drop_all (λ ps. times_from ps c.loop-entry.least c.loop-entry.times) (parts_of c.args.text.now) (length c.loop-entry.yielded) (omega (arith, t.1))) ∙ c.loop-entry.invariant.2
