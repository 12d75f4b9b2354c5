-- A request is carried out: its work, and then its writing.
use Rattle.std.proofs.Common.{◌≡◌, ℕ, ◌≤◌, Bool, false, List, Option, Result, Ok, Err, refl, arith}
use Rattle.sc_top.specs.Carried.{Took, Prints, PrintsLate, early, late, Carried}
use Rattle.sc_top.specs.Endings.{Output}
use Rattle.sc_top.specs.Stages.{Then, stops, goes, Is}
use Rattle.sc_top.proofs.StageLemmas.{why_map}
use Rattle.sc_top.specs.declared.fault.Fault.{Fault}
use Rattle.sc_top.specs.declared.fault.Fault.TheVariants as fault
use Rattle.sc_top.specs.declared.fault.Refusal.{Refusal}

same : (n : ℕ) → n ≤ n
same n = omega arith

abbrev given : (T E : Type 0) → T → Result T E
given T E t = Ok t

abbrev failed : (T E : Type 0) → E → Result T E
failed T E e = Err e

-- the work came to a fault, and nothing was written
pub carried_stops : {F O V : Type 0} {held : F → List ℕ → Option (List ℕ)} {tells_held : F → Bool} {shelf_faults : F → ℕ} {tells : O → Bool} {bytes : O → List ℕ} {is_ended : O → Bool} {faults : O → ℕ}
    {Work : (List ℕ → Option (List ℕ)) → Result V Refusal → Type 0} {Next : V → Result Output Refusal → Type 0} {Late : Type 0} {Leaves : (List ℕ → Option (List ℕ)) → List ℕ → Type 0}
    {shelf_old shelf_new : F} {out : O} (f : Fault) → is_ended out ≡ false → Took held tells_held shelf_faults Work shelf_old shelf_new (Err f) →
    Carried held tells_held shelf_faults tells bytes is_ended faults ⊥ (λ texts. Then (Work texts) Next) Late Leaves shelf_old shelf_new out out (Err f)
carried_stops {faults = faults} {out = out} f is_open work = record {
  kept = work.kept;
  later = same (faults out);
  ended = tt;
  still_open = is_open;
  done = tt;
  fault = why_map f (λ none. absurd none) (λ read. (refl, read)) (λ none. absurd none) (λ short. early refl) (λ r said. record { same = refl; answer = λ told. stops r (said told) }) work.fault;
}

-- the work came to a value, and its output stands
pub carried_done : {F O V T E : Type 0} {held : F → List ℕ → Option (List ℕ)} {tells_held : F → Bool} {shelf_faults : F → ℕ} {tells : O → Bool} {bytes : O → List ℕ} {is_ended : O → Bool} {faults : O → ℕ}
    {Work : (List ℕ → Option (List ℕ)) → Result V Refusal → Type 0} {Late : Type 0} {Leaves : (List ℕ → Option (List ℕ)) → List ℕ → Type 0}
    {shelf_old shelf_new : F} {old new : O} {v : V} {t : T} (output : V → Output) → Took held tells_held shelf_faults Work shelf_old shelf_new (Ok v) →
    Prints tells bytes is_ended faults old new (output v).text (given T E t) →
    Carried held tells_held shelf_faults tells bytes is_ended faults ⊥ (λ texts. Then (Work texts) (λ a. Is (Ok (output a)))) Late Leaves shelf_old shelf_new old new (Ok (output v).ends)
carried_done {v = v} output work prints = record {
  kept = work.kept;
  later = prints.cause.later;
  ended = prints.ended;
  still_open = tt;
  done = record { whole = λ told. ((output v).text, goes v (Ok (output v)) (work.value told) refl, prints.whole) };
  fault = tt;
}

-- the work came to a value, and the sink failed
pub carried_unwritten : {F O V T E : Type 0} {held : F → List ℕ → Option (List ℕ)} {tells_held : F → Bool} {shelf_faults : F → ℕ} {tells : O → Bool} {bytes : O → List ℕ} {is_ended : O → Bool} {faults : O → ℕ}
    {Work : (List ℕ → Option (List ℕ)) → Result V Refusal → Type 0} {Late : Type 0} {Leaves : (List ℕ → Option (List ℕ)) → List ℕ → Type 0}
    {shelf_old shelf_new : F} {old new : O} {v : V} {e : E} (output : V → Output) → Took held tells_held shelf_faults Work shelf_old shelf_new (Ok v) →
    Prints tells bytes is_ended faults old new (output v).text (failed T E e) →
    Carried held tells_held shelf_faults tells bytes is_ended faults ⊥ (λ texts. Then (Work texts) (λ a. Is (Ok (output a)))) Late Leaves shelf_old shelf_new old new (Err fault.WriteFault)
carried_unwritten {v = v} output work prints = record {
  kept = work.kept;
  later = prints.cause.later;
  ended = tt;
  still_open = prints.still_open;
  done = tt;
  fault = (prints.cause.failed, record { prefix = λ told. (output v, goes v (Ok (output v)) (work.value told) refl, prints.prefix) });
}

-- the work came to a value, and its output was begun: a fault comes in writing it, or between its parts
pub carried_late : {F O V T : Type 0} {held : F → List ℕ → Option (List ℕ)} {tells_held : F → Bool} {shelf_faults : F → ℕ} {tells : O → Bool} {bytes : O → List ℕ} {is_ended : O → Bool} {faults : O → ℕ}
    {Work : (List ℕ → Option (List ℕ)) → Result V Refusal → Type 0} {Late : Type 0} {Leaves : (List ℕ → Option (List ℕ)) → List ℕ → Type 0}
    {shelf_old shelf_new : F} {old new : O} {v : V} {part : List ℕ} {May : Type 0} (output : V → Output) (f : Fault) → (May → Late) → ((texts : List ℕ → Option (List ℕ)) → Work texts (Ok v) → Leaves texts part) →
    Took held tells_held shelf_faults Work shelf_old shelf_new (Ok v) → PrintsLate tells bytes is_ended faults May old new part (output v).text (failed T Fault f) →
    Carried held tells_held shelf_faults tells bytes is_ended faults ⊥ (λ texts. Then (Work texts) (λ a. Is (Ok (output a)))) Late Leaves shelf_old shelf_new old new (Err f)
carried_late {held = held} {shelf_old = shelf_old} {v = v} {part = part} output f may leaves work prints = record {
  kept = work.kept;
  later = prints.later;
  ended = tt;
  still_open = prints.still_open;
  done = tt;
  fault = why_map f (λ none. absurd none) (λ none. absurd none)
      (λ why. (why.0, record { prefix = λ told. (output v, goes v (Ok (output v)) (work.value told) refl, why.1) }))
      (λ why. late (may why.0) (λ told. (part, leaves (held shelf_old) (work.value told), why.1))) (λ r none. absurd none) prints.fault;
}

-- and so does its whole output, in parts
pub carried_whole : {F O V T : Type 0} {held : F → List ℕ → Option (List ℕ)} {tells_held : F → Bool} {shelf_faults : F → ℕ} {tells : O → Bool} {bytes : O → List ℕ} {is_ended : O → Bool} {faults : O → ℕ}
    {Work : (List ℕ → Option (List ℕ)) → Result V Refusal → Type 0} {Late : Type 0} {Leaves : (List ℕ → Option (List ℕ)) → List ℕ → Type 0}
    {shelf_old shelf_new : F} {old new : O} {v : V} {part : List ℕ} {May : Type 0} {t : T} (output : V → Output) →
    Took held tells_held shelf_faults Work shelf_old shelf_new (Ok v) → PrintsLate tells bytes is_ended faults May old new part (output v).text (given T Fault t) →
    Carried held tells_held shelf_faults tells bytes is_ended faults ⊥ (λ texts. Then (Work texts) (λ a. Is (Ok (output a)))) Late Leaves shelf_old shelf_new old new (Ok (output v).ends)
carried_whole {v = v} output work prints = record {
  kept = work.kept;
  later = prints.later;
  ended = prints.ended;
  still_open = tt;
  done = record { whole = λ told. ((output v).text, goes v (Ok (output v)) (work.value told) refl, prints.whole) };
  fault = tt;
}

-- a request is refused at once
pub carried_refused : {F O : Type 0} {held : F → List ℕ → Option (List ℕ)} {tells_held : F → Bool} {shelf_faults : F → ℕ} {tells : O → Bool} {bytes : O → List ℕ} {is_ended : O → Bool} {faults : O → ℕ}
    {Answers : (List ℕ → Option (List ℕ)) → Result Output Refusal → Type 0} {Late : Type 0} {Leaves : (List ℕ → Option (List ℕ)) → List ℕ → Type 0} {shelf : F} {out : O} (refusal : Refusal) →
    is_ended out ≡ false → ((texts : List ℕ → Option (List ℕ)) → Answers texts (Err refusal)) →
    Carried held tells_held shelf_faults tells bytes is_ended faults ⊥ Answers Late Leaves shelf shelf out out (Err (fault.Refused refusal))
carried_refused {held = held} {shelf_faults = shelf_faults} {faults = faults} {shelf = shelf} {out = out} refusal is_open says = record {
  kept = record { held_still = refl; tells_still = refl; later = same (shelf_faults shelf) };
  later = same (faults out);
  ended = tt;
  still_open = is_open;
  done = tt;
  fault = record { same = refl; answer = λ told. says (held shelf) };
}
