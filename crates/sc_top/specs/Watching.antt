-- Probes as they are handed in, and the lines that they tell.
use Rattle.std.specs.Prelude.{◌≢◌, ℕ, Bool, List, [], ◌++◌, map, filter, flat_map, codes}
use Rattle.sc_gate.specs.declared.gate.Gate.{Gate}
use Rattle.sc_probe.specs.Rules.{folded, state_text}
use Rattle.sc_probe.specs.declared.rule.Rule.{Rule}
use Rattle.sc_probe.specs.declared.rule.Rule.TheVariants.{Kinds, Burst, Window, Reach}
use Rattle.sc_top.specs.declared.watch.Asked.{Asked}

-- the rule and the state of a probe
pub record Watcher : Type 0 where
  pub rule : Rule
  pub state : List ℕ

abbrev pub watchers : {P : Type 0} → (P → Rule) → (P → List ℕ) → List P → List Watcher
watchers rule state probes = map (λ p. record { rule = rule p; state = state p }) probes

-- the option of the rule is given
abbrev pub asks : Asked → Rule → Bool
asks asked Kinds = asked.kinds
asks asked Burst = asked.burst
asks asked Window = asked.window
asks asked Reach = asked.reach

-- those whose rules are asked for
abbrev pub asked_of : Asked → List Watcher → List Watcher
asked_of asked all = filter (λ w. asks asked w.rule) all

-- there is one
abbrev pub AreSome : List Watcher → Type 0
AreSome all = all ≢ []

-- a text on a line that begins with the mark of a comment
abbrev pub comment_line : List ℕ → List ℕ
comment_line text = codes "# " ++ text ++ codes "\n"

-- the text of the state that the gates lead to
abbrev pub told_of : List Gate → Watcher → List ℕ
told_of gates w = state_text w.rule (folded w.rule w.state gates)

-- THE PROBE LINES: what each tells after these gates, in order
abbrev pub probe_lines : List Gate → List Watcher → List ℕ
probe_lines gates all = flat_map comment_line (map (told_of gates) all)
