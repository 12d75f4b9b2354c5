-- What a request that was carried out says of the run. `r` is how it ended.
use Rattle.std.proofs.Common.{◌≡◌, ℕ, Bool, false, true, IsTrue, List, Option, Some, None, Result, Ok, Err, refl, sym, ◌∙◌, ap, subst, inl, inr, ◌⊎◌}
use Rattle.sc_base.specs.Causes.{Rose, Stood}
use Rattle.sc_base.specs.Output.{Wrote}
use Rattle.sc_base.proofs.CauseLemmas.{rose-stood}
use Rattle.sc_top.specs.Answers.{Says, IsLate, Leaves, OfRequest, Answers, MayBeLate, MayLeave, CarriedOut}
use Rattle.sc_words.specs.Words.{request}
use Rattle.sc_top.specs.Carried.{Short, Carried}
use Rattle.sc_top.specs.Endings.{Output, status_at, is_done}
use Rattle.sc_top.specs.Fault.{weight_of, weight_status, status_of, fault_line, Tells}
use Rattle.sc_top.specs.Runs.{status_from, Closed, EndsAs}
use Rattle.sc_top.specs.Stages.{HasOne, Why}
use Rattle.sc_top.specs.Watching.{Watcher}
use Rattle.sc_top.proofs.StageLemmas.{why_map}
use Rattle.sc_top.specs.declared.fault.Fault.{Fault}
use Rattle.sc_top.specs.declared.fault.Fault.TheVariants as fault
use Rattle.sc_top.specs.declared.fault.Refusal.{Refusal}
use Rattle.sc_top.specs.declared.fault.Weight.{Weight}
use Rattle.sc_top.specs.declared.fault.Weight.TheVariants as weight
use Rattle.sc_words.specs.declared.Request.{Request}
use Rattle.sc_top.specs.declared.status.Ending.{Ending}
use Rattle.sc_top.specs.declared.status.Ending.TheVariants as ending
use Rattle.sc_top.specs.declared.status.Status.TheVariants as status

-- ---- statuses

no_weight_done : (w : Weight) → is_done (weight_status w) ≡ false
no_weight_done weight.Refused = refl
no_weight_done weight.Usage = refl
no_weight_done weight.Limit = refl

fault_not_done : (f : Fault) → is_done (status_of f) ≡ false
fault_not_done fault.Usage = refl
fault_not_done fault.ReadFault = refl
fault_not_done fault.WriteFault = refl
fault_not_done fault.Memory = refl
fault_not_done (fault.Refused refusal) = no_weight_done (weight_of refusal.reason)

ending_done : (e : Ending) → is_done (status_at e) ≡ true
ending_done ending.Done = refl
ending_done ending.NotLegal = refl

not_both : {b : Bool} → b ≡ false → b ≡ true → ⊥
not_both {b} one other = let impossible : false ≡ true = sym one ∙ other in cc

-- the status is that of how the request ended
pub run_usage : (r : Result Ending Fault) → (r ≡ Err fault.Usage) ⊎ (r ≡ Err fault.Memory) → (status_from r ≡ status.Usage) ⊎ (status_from r ≡ status.Memory)
run_usage r (inl is) = inl (ap status_from is)
run_usage r (inr is) = inr (ap status_from is)

-- ---- the request of words

-- a request that is carried out does not come without a request
carried_any : {F O : Type 0} {held : F → List ℕ → Option (List ℕ)} {tells_held : F → Bool} {shelf_faults : F → ℕ} {tells : O → Bool} {bytes : O → List ℕ} {is_ended : O → Bool} {faults : O → ℕ} (N : Type 0)
    {A : (List ℕ → Option (List ℕ)) → Result Output Refusal → Type 0} {Late : Type 0} {Leaves : (List ℕ → Option (List ℕ)) → List ℕ → Type 0} {shelf_old shelf_new : F} {old new : O} (r : Result Ending Fault) →
    Carried held tells_held shelf_faults tells bytes is_ended faults ⊥ A Late Leaves shelf_old shelf_new old new r →
    Carried held tells_held shelf_faults tells bytes is_ended faults N A Late Leaves shelf_old shelf_new old new r
carried_any N (Ok e) c = record { kept = c.kept; later = c.later; ended = c.ended; still_open = tt; done = c.done; fault = tt }
carried_any N (Err f) c = record {
  kept = c.kept;
  later = c.later;
  ended = tt;
  still_open = c.still_open;
  done = tt;
  fault = why_map f (λ x. absurd x.1) (λ x. x) (λ x. x) (λ x. x) (λ r x. x) c.fault;
}

carried_found : {F O : Type 0} {held : F → List ℕ → Option (List ℕ)} {tells_held : F → Bool} {shelf_faults : F → ℕ} {tells : O → Bool} {bytes : O → List ℕ} {is_ended : O → Bool} {faults : O → ℕ} {shelf_old shelf_new : F} {old new : O} (all : List Watcher) (job : Request) (r : Result Ending Fault) (found : Option Request) → Some job ≡ found →
    CarriedOut held tells_held shelf_faults tells bytes is_ended faults all job shelf_old shelf_new old new r →
    Carried held tells_held shelf_faults tells bytes is_ended faults (found ≡ None) (λ texts answer. OfRequest (λ j. Says texts all j answer) found) (OfRequest (IsLate all) found)
    (λ texts text. OfRequest (λ j. Leaves texts j text) found) shelf_old shelf_new old new r
carried_found {held = held} {tells_held = tells_held} {shelf_faults = shelf_faults} {tells = tells} {bytes = bytes} {is_ended = is_ended} {faults = faults} {shelf_old = shelf_old} {shelf_new = shelf_new} {old = old} {new = new} all job r found is c =
    subst (λ (f : Option Request). Carried held tells_held shelf_faults tells bytes is_ended faults (f ≡ None) (λ texts answer. OfRequest (λ j. Says texts all j answer) f) (OfRequest (IsLate all) f)
    (λ texts text. OfRequest (λ j. Leaves texts j text) f) shelf_old shelf_new old new r) is (carried_any (Some job ≡ None) r c)

-- the words are carried out where their request is
pub carried_words : {F O : Type 0} {held : F → List ℕ → Option (List ℕ)} {tells_held : F → Bool} {shelf_faults : F → ℕ} {tells : O → Bool} {bytes : O → List ℕ} {is_ended : O → Bool} {faults : O → ℕ} {shelf_old shelf_new : F} {old new : O} (all : List Watcher) (job : Request) (r : Result Ending Fault) (words : List (List ℕ)) → request words ≡ Some job →
    CarriedOut held tells_held shelf_faults tells bytes is_ended faults all job shelf_old shelf_new old new r →
    Carried held tells_held shelf_faults tells bytes is_ended faults (request words ≡ None) (λ texts. Answers texts all words) (MayBeLate all words) (λ texts. MayLeave texts words) shelf_old shelf_new old new r
carried_words all job r words is c = carried_found all job r (request words) (sym is) c

-- ---- the clauses

pub run_done : {F O : Type 0} {held : F → List ℕ → Option (List ℕ)} {tells_held : F → Bool} {shelf_faults : F → ℕ} {tells : O → Bool} {bytes : O → List ℕ} {is_ended : O → Bool} {faults : O → ℕ} {N : Type 0}
    {A : (List ℕ → Option (List ℕ)) → Result Output Refusal → Type 0} {Late : Type 0} {Leaves : (List ℕ → Option (List ℕ)) → List ℕ → Type 0} {shelf_old shelf_new : F} {old new : O} (r : Result Ending Fault) →
    Carried held tells_held shelf_faults tells bytes is_ended faults N A Late Leaves shelf_old shelf_new old new r → IsTrue (is_done (status_from r)) → IsTrue (tells_held shelf_old) →
    (output : Output) × A (held shelf_old) (Ok output) × (status_from r ≡ status_at output.ends) × Wrote tells bytes old new output.text
run_done (Ok e) c is told = let (text, answer, wrote) = c.done.whole told in (record { text = text; ends = e }, answer, refl, wrote)
run_done (Err f) c is told = absurd (not_both (fault_not_done f) is)

pub run_exact : {F O E : Type 0} {held : F → List ℕ → Option (List ℕ)} {tells_held : F → Bool} {shelf_faults : F → ℕ} {tells : O → Bool} {bytes : O → List ℕ} {is_ended : O → Bool} {faults : O → ℕ} {N : Type 0}
    {A : (List ℕ → Option (List ℕ)) → Result Output Refusal → Type 0} {Late : Type 0} {Leaves : (List ℕ → Option (List ℕ)) → List ℕ → Type 0} {shelf_old shelf_new : F} {old new : O}
    {err_tells : E → Bool} {err_bytes : E → List ℕ} {err_ended : E → Bool} {err_faults : E → ℕ} {err_old err_new : E} (r : Result Ending Fault) →
    Carried held tells_held shelf_faults tells bytes is_ended faults N A Late Leaves shelf_old shelf_new old new r → Closed err_tells err_bytes err_ended err_faults err_old err_new r →
    HasOne (A (held shelf_old)) → ((answer : Result Output Refusal) → N → A (held shelf_old) answer → ⊥) →
    (answer : Result Output Refusal) → IsTrue (tells_held shelf_old) → A (held shelf_old) answer → Stood (shelf_faults shelf_old) (shelf_faults shelf_new) → Stood (faults old) (faults new) →
    (status_from r ≡ status.Memory) ⊎ EndsAs tells bytes err_tells err_bytes err_ended err_faults old new err_old err_new (status_from r) answer
run_exact {tells = tells} {bytes = bytes} {old = old} {new = new} {err_tells = err_tells} {err_bytes = err_bytes} {err_ended = err_ended} {err_faults = err_faults} {err_old = err_old} {err_new = err_new}
    (Ok e) c ends one none answer told has shelf_stood out_stood =
    let (text, this, wrote) = c.done.whole told in inr (subst (λ (a : Result Output Refusal). EndsAs tells bytes err_tells err_bytes err_ended err_faults old new err_old err_new (status_at e) a) (one _ answer this has) (refl, wrote))
run_exact (Err fault.Usage) c ends one none answer told has shelf_stood out_stood = absurd (none answer c.fault.1 has)
run_exact {shelf_faults = shelf_faults} {shelf_old = shelf_old} {shelf_new = shelf_new} (Err fault.ReadFault) c ends one none answer told has shelf_stood out_stood =
    absurd (rose-stood (shelf_faults shelf_old) (shelf_faults shelf_new) c.fault.1 shelf_stood)
run_exact {faults = faults} {old = old} {new = new} (Err fault.WriteFault) c ends one none answer told has shelf_stood out_stood = absurd (rose-stood (faults old) (faults new) c.fault.0 out_stood)
run_exact (Err fault.Memory) c ends one none answer told has shelf_stood out_stood = inl refl
run_exact {tells = tells} {bytes = bytes} {old = old} {new = new} {err_tells = err_tells} {err_bytes = err_bytes} {err_ended = err_ended} {err_faults = err_faults} {err_old = err_old} {err_new = err_new}
    (Err (fault.Refused refusal)) c ends one none answer told has shelf_stood out_stood =
    inr (subst (λ (a : Result Output Refusal). EndsAs tells bytes err_tells err_bytes err_ended err_faults old new err_old err_new (status_of (fault.Refused refusal)) a) (one _ answer (c.fault.answer told) has) (refl, ends.told))

no_weight_memory : (w : Weight) → weight_status w ≡ status.Memory → ⊥
no_weight_memory weight.Refused is = cc
no_weight_memory weight.Usage is = cc
no_weight_memory weight.Limit is = cc

no_ending_memory : (e : Ending) → status_at e ≡ status.Memory → ⊥
no_ending_memory ending.Done is = cc
no_ending_memory ending.NotLegal is = cc

-- memory is wanting
pub run_memory : {F O : Type 0} {held : F → List ℕ → Option (List ℕ)} {tells_held : F → Bool} {shelf_faults : F → ℕ} {tells : O → Bool} {bytes : O → List ℕ} {is_ended : O → Bool} {faults : O → ℕ} {N : Type 0}
    {A : (List ℕ → Option (List ℕ)) → Result Output Refusal → Type 0} {Late : Type 0} {Leaves : (List ℕ → Option (List ℕ)) → List ℕ → Type 0} {shelf_old shelf_new : F} {old new : O} (r : Result Ending Fault) →
    Carried held tells_held shelf_faults tells bytes is_ended faults N A Late Leaves shelf_old shelf_new old new r → status_from r ≡ status.Memory →
    Short tells bytes (IsTrue (tells_held shelf_old)) Late (Leaves (held shelf_old)) old new
run_memory (Ok e) c is = absurd (no_ending_memory e is)
run_memory (Err fault.Usage) c is = absurd (let impossible : status.Usage ≡ status.Memory = is in cc)
run_memory (Err fault.ReadFault) c is = absurd (let impossible : status.ReadFailed ≡ status.Memory = is in cc)
run_memory (Err fault.WriteFault) c is = absurd (let impossible : status.WriteFailed ≡ status.Memory = is in cc)
run_memory (Err fault.Memory) c is = c.fault
run_memory (Err (fault.Refused refusal)) c is = absurd (no_weight_memory (weight_of refusal.reason) is)

-- a fault is told, and has its cause
pub run_fault : {F O E : Type 0} {held : F → List ℕ → Option (List ℕ)} {tells_held : F → Bool} {shelf_faults : F → ℕ} {tells : O → Bool} {bytes : O → List ℕ} {is_ended : O → Bool} {faults : O → ℕ} {N : Type 0}
    {A : (List ℕ → Option (List ℕ)) → Result Output Refusal → Type 0} {Late : Type 0} {Leaves : (List ℕ → Option (List ℕ)) → List ℕ → Type 0} {shelf_old shelf_new : F} {old new : O}
    {err_tells : E → Bool} {err_bytes : E → List ℕ} {err_ended : E → Bool} {err_faults : E → ℕ} {err_old err_new : E} (r : Result Ending Fault) →
    Carried held tells_held shelf_faults tells bytes is_ended faults N A Late Leaves shelf_old shelf_new old new r → Closed err_tells err_bytes err_ended err_faults err_old err_new r →
    is_done (status_from r) ≡ false →
    (f : Fault) × (status_from r ≡ status_of f) × Tells err_tells err_bytes err_ended err_faults err_old err_new (fault_line f) ×
    Why N (Rose (shelf_faults shelf_old) (shelf_faults shelf_new)) (Rose (faults old) (faults new)) (Unit {0}) (λ refusal. IsTrue (tells_held shelf_old) → A (held shelf_old) (Err refusal)) f
run_fault (Ok e) c ends is = absurd (not_both is (ending_done e))
run_fault (Err f) c ends is = (f, refl, ends.told, why_map f (λ x. x.1) (λ x. x.1) (λ x. x.0) (λ x. tt) (λ r x. x.answer) c.fault)

-- words without a request have no answer
pub no_answer : (held : List ℕ → Option (List ℕ)) (all : List Watcher) (words : List (List ℕ)) (answer : Result Output Refusal) → request words ≡ None → Answers held all words answer → ⊥
no_answer held all words answer none has = subst (λ (found : Option Request). OfRequest (λ job. Says held all job answer) found) none has
