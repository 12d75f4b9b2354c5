use Rattle.std.proofs.Common.{ℕ, get_or, ◌||◌, ◌≡◌, ◌+◌, ◌++◌, ◌∷◌, [], ◌<◌, List, None, length, map, take, drop, sym, ap, subst, ◌∙◌, arith, length-append}
use Rattle.std.specs.Prelude.{All, Bool, false, nat_eq}
use Rattle.std.specs.List.{list_any}
use Rattle.std.specs.Map.{lookup}
use Rattle.std.proofs.lemmas.List.{map-append}
use Rattle.indexmap.proofs.CallerLemmas.{insert_entry-new}
use Rattle.sc_deck.specs.declared.key.Key.{Key}
use Rattle.sc_deck.specs.declared.entry.Entry.{Entry}
use Rattle.sc_deck.specs.Decks.{IsNewKey, CallsFit}
use Rattle.sc_deck.specs.Entries.{module_in, modules_in, height_in, reach_in, KeepsDeck}
use Rattle.sc_deck.specs.Items.{callees_of}
use Rattle.sc_deck.specs.Keys.{same_key, ArgInRange}
use Rattle.sc_deck.specs.Modules.{Module, greatest_called}
use Rattle.sc_deck.proofs.DeckLemmas.{KeepsDeck-push}
use Rattle.sc_deck.proofs.FindLemmas.{lookup_new}
use Rattle.sc_deck.proofs.PushLemmas.{ok_part, succeeded, pushed, written, height_fits, reach_fits}
use Rattle.sc_deck.proofs.deck.Deck.push_body.Goals as goal

pub overflow_add-height : goal.overflow_add-height
overflow_add-height c =
    let room : length (modules_in c.self.inside.entries.entries) < 65536 = subst (λ (ms : List Module). length ms < 65536) (sym c.self.view_is) c.requires.room in
    let h = height_fits c.self.inside.entries.entries c.self.inside.called.items c.items.result.now c.self.invariant room in
    omega (arith, c.called_by_all-height.ensures.height)

pub overflow_add-reach : goal.overflow_add-reach
overflow_add-reach c =
    let room : length (modules_in c.self.inside.entries.entries) < 65536 = subst (λ (ms : List Module). length ms < 65536) (sym c.self.view_is) c.requires.room in
    let h = reach_fits c.self.inside.entries.entries c.self.inside.called.items c.items.result.now c.self.invariant room in
    omega (arith, c.called_by_all-height.ensures.reach, c.from.ensures, c.wires.ensures.count, c.wires.ensures.sound.narrow)

-- the entry that is pushed
abbrev entry_of : goal.Joined-insert → Entry
entry_of c = record { body = c.args.body; height = c.called_by_all-height.result.0 + 1; reach = c.called_by_all-height.result.1 + c.from.result }

new_key : (c : goal.Joined-insert) → IsNewKey (modules_in c.self.inside.entries.entries) c.args.key
new_key c = subst (λ (ms : List Module). IsNewKey ms c.args.key) (sym c.self.view_is) c.requires.new

-- the map has the entry at its end
entries_after : (c : goal.Joined-insert) → c.insert.new.self.entries ≡ c.self.inside.entries.entries ++ (c.args.key, entry_of c) ∷ []
entries_after c =
    let absent : lookup (same_key c.args.key) c.reserve.new.self.entries ≡ None =
    ap (lookup (same_key c.args.key)) c.reserve.ensures.entries ∙ lookup_new c.self.inside.entries.entries c.args.key (new_key c) in
    let spare = ok_part c.reserve.result (sym c.is_err.ensures.value ∙ c.if-is_err.false) c.reserve.ensures.ok in
    succeeded c.insert.result (c.insert.ensures.succeeds spare) c.insert.ensures.entries
    ∙ insert_entry-new same_key c.reserve.new.self c.args.key (entry_of c) absent
    ∙ ap (λ (l : List (Key × Entry)). l ++ (c.args.key, entry_of c) ∷ []) c.reserve.ensures.entries

-- the marks have one more place
marks_before : (c : goal.Joined-insert) → c.push.new.self.items ≡ c.self.inside.called.items ++ false ∷ []
marks_before c = c.push.ensures.items ∙ pushed c.push.result _ _ (sym c.is_err-2.ensures.value ∙ c.if-is_err-2.false)

marks_after : (c : goal.Joined-insert) → take c.push.new.self.len (c.mark_callees.new.marks ++ drop (length c.mark_callees.new.marks) c.push.new.self.items) ≡ c.mark_callees.new.marks
marks_after c =
    written c.mark_callees.new.marks c.push.new.self.items c.push.new.self.len (c.mark_callees.ensures.len ∙ c.deref_mut.ensures.len)
    (ap length (sym c.deref_mut.ensures.value) ∙ c.deref_mut.ensures.len)

-- the marks that are lent are the old ones and one more
lent_marks : (c : goal.Joined-insert) → c.deref_mut.result.now ≡ c.self.inside.called.items ++ false ∷ []
lent_marks c = c.deref_mut.ensures.value ∙ marks_before c

pub invariant_of-self-2 : goal.invariant_of-self-2
invariant_of-self-2 c =
    let es = c.self.inside.entries.entries in
    let fit : CallsFit (modules_in es) c.args.body.items = subst (λ (ms : List Module). CallsFit ms c.args.body.items) (sym c.self.view_is) c.requires.calls in
    let room : length (modules_in es) < 65536 = subst (λ (ms : List Module). length ms < 65536) (sym c.self.view_is) c.requires.room in
    let marked : (i : ℕ) → i < length (c.self.inside.called.items ++ false ∷ []) → get_or c.mark_callees.new.marks i false ≡ (get_or (c.self.inside.called.items ++ false ∷ []) i false || list_any (nat_eq i) (callees_of c.args.body.items)) =
    λ i below. c.mark_callees.ensures.marked i (subst (λ (l : List Bool). i < length l) (sym (lent_marks c)) below)
    ∙ (λ j. get_or (lent_marks c j) i false || list_any (nat_eq i) (callees_of (c.items-2.ensures j))) in
    subst (λ (l : List Bool). KeepsDeck c.insert.new.self.entries l) (sym (marks_after c))
    (subst (λ (l : List (Key × Entry)). KeepsDeck l c.mark_callees.new.marks) (sym (entries_after c))
    (KeepsDeck-push es c.self.inside.called.items c.mark_callees.new.marks c.args.key (entry_of c) c.self.invariant (new_key c) c.requires.lengths (subst (All ArgInRange) c.as_slice.ensures c.args_have_ranges.ensures) c.requires.params c.wires.ensures.sound room fit
    (ap (λ (n : ℕ). n + 1) (c.called_by_all-height.ensures.height ∙ ap (greatest_called (map height_in es)) c.items.ensures))
    (λ j. (c.called_by_all-height.ensures.reach ∙ ap (greatest_called (map reach_in es)) c.items.ensures) j + (c.from.ensures ∙ c.wires.ensures.count) j)
    (c.mark_callees.ensures.len ∙ ap length (lent_marks c) ∙ length-append c.self.inside.called.items (false ∷ []) ∙ ap (λ (n : ℕ). n + 1) c.self.invariant.marked)
    marked))

pub returns-clause-pushed : goal.returns-clause-pushed
returns-clause-pushed c =
    ap modules_in (entries_after c) ∙ map-append module_in c.self.inside.entries.entries ((c.args.key, entry_of c) ∷ [])
    ∙ ap (λ (ms : List Module). ms ++ module_in (c.args.key, entry_of c) ∷ []) c.self.view_is
