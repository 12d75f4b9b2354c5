-- The stages from a deck to its coarse schedules.
use Rattle.std.specs.Prelude.{◌≡◌, ℕ, Bool, true, false, List, Option, None, Some, Result, Ok, Err}
use Rattle.sc_coarse.specs.CoarseDecks.{AreCoarse}
use Rattle.sc_coarse.specs.CoarseText.{coarse_text}
use Rattle.sc_coarse.specs.Refusals.{deck_too_large, IsFirstWide, NoneIsWide}
use Rattle.sc_coarse.specs.declared.coarse.Instance.{Instance}
use Rattle.sc_coarse.specs.declared.make.CoarseFault.{CoarseFault}
use Rattle.sc_coarse.specs.declared.make.CoarseFault.TheVariants as coarsening
use Rattle.sc_count.specs.Limits.{IsWithin}
use Rattle.sc_deck.specs.Modules.{Module}
use Rattle.sc_sched.specs.declared.order.Rank.{Rank}
use Rattle.sc_top.specs.Expansions.{ones, counts_by, IsCounted}
use Rattle.sc_top.specs.Fault.{plain, at_item}
use Rattle.sc_top.specs.Scheduled.{order_by}
use Rattle.sc_top.specs.Stages.{Then, Is}
use Rattle.sc_top.specs.Tallied.{Yields}
use Rattle.sc_top.specs.declared.coarsened.Coarsened.{Coarsened}
use Rattle.sc_top.specs.declared.fault.Refusal.{Refusal}
use Rattle.sc_top.specs.declared.fault.Reason.TheVariants as reason

-- no body has too many items, and no stretch of one too many gates
abbrev pub HasFewItems : List Module → Result (Unit {0}) Refusal → Type 0
HasFewItems modules (Ok few) = deck_too_large modules ≡ false
HasFewItems modules (Err refusal) = (deck_too_large modules ≡ true) × (refusal ≡ plain reason.SchedTooLarge)

-- no gate item has more than d qubits; else the first instance with one that has, and its first
abbrev pub HasRoomForItems : ℕ → List Module → Result (Unit {0}) Refusal → Type 0
HasRoomForItems d modules (Ok room) = NoneIsWide d modules
HasRoomForItems d modules (Err refusal) = (i x : ℕ) × IsFirstWide d modules i x × (refusal ≡ at_item reason.NarrowItem i x)

-- the coarse schedules of a deck on k regions of d qubits, by an order of ranks
abbrev pub IsCoarse : (Rank → Rank → Bool) → ℕ → ℕ → List Module → Result (List Instance) Refusal → Type 0
IsCoarse comes k d modules = Then (HasFewItems modules) (λ few. Then (HasRoomForItems d modules) (λ room. Yields (AreCoarse comes k d modules)))

abbrev pub coarsened : List Module → List Instance → Coarsened
coarsened modules instances = record { deck = modules; coarse = instances }

-- the deck with its coarse schedules, where its counts are within their limit
abbrev pub IsCoarsened : ℕ → ℕ → Bool → List Module → Result Coarsened Refusal → Type 0
IsCoarsened k d lpfs modules = Then (IsCounted ones modules) (λ counted. Then (IsCoarse (order_by lpfs) k d modules) (λ instances. Is (Ok (coarsened modules instances))))

-- the text of a deck with its coarse schedules
abbrev pub coarsened_text : ℕ → ℕ → Coarsened → List ℕ
coarsened_text k d c = coarse_text k d c.deck c.coarse

-- a deck whose coarse schedules are within every limit, and no gate item of which has more than d qubits
pub record IsCoarsenable (d : ℕ) (modules : List Module) : Type 0 where
  pub counts : IsWithin (counts_by ones modules)
  pub items : deck_too_large modules ≡ false
  pub room : NoneIsWide d modules

-- a deck that has no coarse schedules for this reason
abbrev pub coarse_refusal : CoarseFault → Option Refusal
coarse_refusal coarsening.SchedTooLarge = Some (plain reason.SchedTooLarge)
coarse_refusal (coarsening.NarrowItem i x) = Some (at_item reason.NarrowItem i x)
coarse_refusal coarsening.Memory = None
