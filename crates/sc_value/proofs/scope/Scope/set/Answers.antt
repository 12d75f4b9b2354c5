use Rattle.std.proofs.Common.{◌≡◌, sym, ap, ◌∙◌, true, false, cond, Bool}
use Rattle.std.specs.Prelude.{is_some}
use Rattle.std.specs.Ordering.{nat_cmp}
use Rattle.std.specs.Cmp.Lexicographic.{slice_cmp}
use Rattle.std.specs.Option.{option_copied_mut}
use Rattle.std.specs.FinMap as map
use Rattle.sc_value.specs.Entries.{byte_entries}
use Rattle.sc_value.specs.Scopes.{Scope}
use Rattle.sc_value.proofs.EntryLemmas.{set_entries, get_entries}
use Rattle.sc_value.proofs.scope.Scope.set.Goals as goal
use Rattle.sc_value.proofs.scope.Scope.set.Goals.{in-Some, in_default}

-- whether the scope has the name
had : (b : Bool) (scope changed : Scope) → b ≡ true → cond b changed scope ≡ changed
had true scope changed is = λ i. changed
had false scope changed is = cc

had_not : (b : Bool) (scope changed : Scope) → b ≡ false → scope ≡ cond b changed scope
had_not true scope changed is = cc
had_not false scope changed is = λ i. scope

pub returns : goal.returns
returns c =
    let es = c.self.inside.values.entries in
    let name = c.args.name.now in
    elim c.match-get_mut.branch [
      | in-Some w ↦
          let has : is_some (map.get (map.from_entries {R = slice_cmp nat_cmp} (byte_entries es)) name) ≡ true =
          ap is_some (get_entries name es ∙ sym c.get_mut.ensures.value ∙ ap option_copied_mut w.in-Some.is) in
          rw w.self-inside-is (
          set_entries name c.args.value es _ has (c.get_mut.follows.holds c.args.value).0
          ∙ ap (λ m. map.insert m name c.args.value) c.self.view_is
          ∙ sym (had (map.contains_key c.args.self.now name) c.args.self.now (map.insert c.args.self.now name c.args.value)
          (ap (λ m. is_some (map.get m name)) (sym c.self.view_is) ∙ has)))
      | in_default w ↦
          let none : is_some (map.get (map.from_entries {R = slice_cmp nat_cmp} (byte_entries es)) name) ≡ false =
          ap is_some (get_entries name es ∙ sym c.get_mut.ensures.value ∙ ap option_copied_mut w.in_default.is) in
          rw w.self-inside-is (
          ap (λ values. map.from_entries {R = slice_cmp nat_cmp} (byte_entries values.entries)) c.get_mut.follows.holds-at-none
          ∙ c.self.view_is
          ∙ had_not (map.contains_key c.args.self.now name) c.args.self.now (map.insert c.args.self.now name c.args.value)
          (ap (λ m. is_some (map.get m name)) (sym c.self.view_is) ∙ none))
    ]
