use Rattle.std.proofs.Common.{◌≡◌, ◌∙◌, ap, sym, inl, inr, map, false}
use Rattle.std.specs.Rc.{rc_str_bytes}
use Rattle.clap.specs.Faults.{fault_of, is_simple_and_free}
use Rattle.clap.specs.Simple.{is_simple, matches_of}
use Rattle.sc_words.proofs.WordsFound.{found_words, free_is, refused_words, simple_is}
use Rattle.sc_words.proofs.WordsRules.{some_kind, text_sorted}
use Rattle.sc_words.proofs.WordsWalk.{none}
use Rattle.sc_words.specs.WordsCommands.{command_of}
use Rattle.sc_words.proofs.words.command.read_row.Goals as goal

pub returns-in-Ok-clause-found : goal.returns-in-Ok-clause-found
returns-in-Ok-clause-found c =
    let words = map rc_str_bytes c.args.words.now in
    let is = c.in_ok-command.ensures in
    found_words c.args.mode words _ (text_sorted c.args.words.now rc_str_bytes (λ w. w.text.value.ok)) ((c.in-Ok.ensures.matches (ap is_simple is ∙ simple_is c.args.mode)).0 ∙ ap (λ a. matches_of a words) is)
    (sym (ap (λ a. fault_of a words) is) ∙ c.in-Ok.ensures.kinds (ap is_simple_and_free is ∙ free_is c.args.mode))

pub returns : goal.returns
returns c =
    let words = map rc_str_bytes c.args.words.now in
    let is = c.in_ok-command.ensures in
    let some : none (fault_of (command_of c.args.mode) words) ≡ false = elim (c.in-Err.ensures.kinds (ap is_simple_and_free is ∙ free_is c.args.mode)) [
      | inl memory ↦ absurd (c.in_default.not-OutOfMemory (c.kind.ensures ∙ memory))
      | inr among ↦ sym (ap (λ a. none (fault_of a words)) is) ∙ some_kind _ _ among
    ] in
    record { found = tt; usage = λ _. refused_words c.args.mode words (text_sorted c.args.words.now rc_str_bytes (λ w. w.text.value.ok)) some }
