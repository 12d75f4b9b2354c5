-- What a request does to its shelf and to its output.
use Rattle.std.specs.Prelude.{◌≡◌, ℕ, ◌≤◌, Bool, true, false, IsTrue, List, Option, Result, Ok, Err, IfOk, IfErr, OnOk, OnErr}
use Rattle.sc_base.specs.Causes.{Rose, HasCause}
use Rattle.sc_base.specs.Output.{Wrote, WrotePrefix}
use Rattle.sc_top.specs.Endings.{Output}
use Rattle.sc_top.specs.Stages.{Why}
use Rattle.sc_top.specs.declared.fault.Fault.{Fault}
use Rattle.sc_top.specs.declared.fault.Refusal.{Refusal}
use Rattle.sc_top.specs.declared.status.Ending.{Ending}

-- what a shelf keeps, and a count that never falls
pub record Kept {F : Type 0} (held : F → List ℕ → Option (List ℕ)) (tells_held : F → Bool) (faults : F → ℕ) (old new : F) : Type 0 where
  pub held_still : held new ≡ held old
  pub tells_still : tells_held new ≡ tells_held old
  pub later : faults old ≤ faults new

-- A call that reads texts answers as the stage says of the held texts, where they are told, or a read failed, or memory
-- is wanting.
pub record Took {F A : Type 0} (held : F → List ℕ → Option (List ℕ)) (tells_held : F → Bool) (faults : F → ℕ) (Stage : (List ℕ → Option (List ℕ)) → Result A Refusal → Type 0)
    (old new : F) (result : Result A Fault) : Type 0 where
  pub kept : Kept held tells_held faults old new
  pub value : IfOk result (λ a. IsTrue (tells_held old) → Stage (held old) (Ok a))
  pub fault : IfErr result (Why ⊥ (Rose (faults old) (faults new)) ⊥ (Unit {0}) (λ r. IsTrue (tells_held old) → Stage (held old) (Err r)))

-- the text is written and the sink is ended, or the sink failed after a prefix of the text
pub record Prints {O T E : Type 0} (tells : O → Bool) (bytes : O → List ℕ) (is_ended : O → Bool) (faults : O → ℕ) (old new : O) (text : List ℕ) (result : Result T E) : Type 0 where
  pub whole : OnOk result (Wrote tells bytes old new text)
  pub prefix : WrotePrefix tells bytes old new text
  pub ended : OnOk result (is_ended new ≡ true)
  pub still_open : OnErr result (is_ended new ≡ false)
  pub cause : HasCause (faults old) (faults new) result

-- the same where memory may be wanting between a first part of the text and the rest, if this is so
pub record PrintsLate {O T : Type 0} (tells : O → Bool) (bytes : O → List ℕ) (is_ended : O → Bool) (faults : O → ℕ) (Late : Type 0) (old new : O) (part text : List ℕ) (result : Result T Fault) : Type 0 where
  pub whole : OnOk result (Wrote tells bytes old new text)
  pub ended : OnOk result (is_ended new ≡ true)
  pub still_open : OnErr result (is_ended new ≡ false)
  pub later : faults old ≤ faults new
  pub fault : IfErr result (Why ⊥ ⊥ (Rose (faults old) (faults new) × WrotePrefix tells bytes old new text) (Late × Wrote tells bytes old new part) (λ r. ⊥))

-- the whole output stands
pub record Finished {O : Type 0} (tells : O → Bool) (bytes : O → List ℕ) (Told : Type 0) (Answers : Result Output Refusal → Type 0) (old new : O) (ends : Ending) : Type 0 where
  pub whole : Told → (text : List ℕ) × Answers (Ok (record { text = text; ends = ends })) × Wrote tells bytes old new text

-- a prefix of the output stands
pub record Begun {O : Type 0} (tells : O → Bool) (bytes : O → List ℕ) (Told : Type 0) (Answers : Result Output Refusal → Type 0) (old new : O) : Type 0 where
  pub prefix : Told → (output : Output) × Answers (Ok output) × WrotePrefix tells bytes old new output.text

-- a refusal, before the first byte of output
pub record Refuses {O : Type 0} (Told : Type 0) (Answers : Result Output Refusal → Type 0) (old new : O) (refusal : Refusal) : Type 0 where
  pub same : new ≡ old
  pub answer : Told → Answers (Err refusal)

-- memory is wanting: before the first byte of output, or, in a request that may, after a text that it may then leave
pub data Short {O : Type 0} (tells : O → Bool) (bytes : O → List ℕ) (Told Late : Type 0) (Leaves : List ℕ → Type 0) (old new : O) : Type 0 where
  early : new ≡ old → Short tells bytes Told Late Leaves old new
  late : Late → (Told → (text : List ℕ) × Leaves text × Wrote tells bytes old new text) → Short tells bytes Told Late Leaves old new

-- A request is carried out. `Answers` is what it may be answered over the held texts where nothing fails from outside,
-- `Late` that memory may be wanting after its first byte of output, and `Leaves` the text that then stands.
pub record Carried {F O : Type 0} (held : F → List ℕ → Option (List ℕ)) (tells_held : F → Bool) (shelf_faults : F → ℕ) (tells : O → Bool) (bytes : O → List ℕ) (is_ended : O → Bool) (faults : O → ℕ)
    (NoRequest : Type 0) (Answers : (List ℕ → Option (List ℕ)) → Result Output Refusal → Type 0) (Late : Type 0) (Leaves : (List ℕ → Option (List ℕ)) → List ℕ → Type 0)
    (shelf_old shelf_new : F) (old new : O) (result : Result Ending Fault) : Type 0 where
  pub kept : Kept held tells_held shelf_faults shelf_old shelf_new
  pub later : faults old ≤ faults new
  pub ended : OnOk result (is_ended new ≡ true)
  pub still_open : OnErr result (is_ended new ≡ false)
  pub done : IfOk result (Finished tells bytes (IsTrue (tells_held shelf_old)) (Answers (held shelf_old)) old new)
  pub fault : IfErr result (Why ((new ≡ old) × NoRequest) ((new ≡ old) × Rose (shelf_faults shelf_old) (shelf_faults shelf_new))
      (Rose (faults old) (faults new) × Begun tells bytes (IsTrue (tells_held shelf_old)) (Answers (held shelf_old)) old new)
      (Short tells bytes (IsTrue (tells_held shelf_old)) Late (Leaves (held shelf_old)) old new) (Refuses (IsTrue (tells_held shelf_old)) (Answers (held shelf_old)) old new))
