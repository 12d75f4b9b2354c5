-- Words have one answer at most: each stage has one.
use Rattle.std.proofs.Common.{◌≡◌, ℕ, ◌<◌, ◌≤◌, ◌^◌, List, length, Option, None, Some, Result, Ok, Err, refl, sym, ◌∙◌, ap, inl, inr, arith}
use Rattle.sc_base.specs.Limits.{most_gates, most_source_bytes, most_text_bytes}
use Rattle.sc_check.proofs.TextLaws.{one_schedule_of, no_bad_line, one_bad_line}
use Rattle.sc_check.specs.ReadFaults.{IsReadFault}
use Rattle.sc_check.specs.declared.text_reader.SchedReadFault.{SchedReadFault}
use Rattle.sc_check.specs.declared.text_reader.SchedReadFault.TheVariants as planning
use Rattle.sc_deck.specs.Modules.{Module}
use Rattle.sc_meaning.proofs.OneProgram.{is_one_program}
use Rattle.sc_meaning.specs.declared.choice.Choice.{Choice}
use Rattle.sc_meaning.specs.Definitions.{Program}
use Rattle.sc_meaning.specs.Instances.{refusal_of, instances_of}
use Rattle.sc_meaning.specs.Meaning.{refusal}
use Rattle.sc_meaning.specs.Outcomes.{events_of}
use Rattle.sc_meaning.specs.Programs.{program_of}
use Rattle.sc_meaning.specs.Run.{run_program}
use Rattle.sc_parse.proofs.OneFault.{one_fault}
use Rattle.sc_parse.proofs.OneTree.{one_tree}
use Rattle.sc_read.proofs.FlatBody.{one_flat_text, no_bad_flat_line, not_too_many_gates, bad_or_too_many, one_bad_flat_line}
use Rattle.sc_read.proofs.HierOneWay.{one_hier_text, no_hier_fault, one_hier_fault}
use Rattle.sc_read.specs.FlatReads.{IsFlatText, IsFlatFault}
use Rattle.sc_read.specs.HierReads.{IsHierText, IsHierFault}
use Rattle.sc_read.specs.declared.flat.FlatFault.{FlatFault}
use Rattle.sc_read.specs.declared.flat.FlatFault.TheVariants as listing
use Rattle.sc_read.specs.declared.flat.FlatText.{FlatText}
use Rattle.sc_read.specs.declared.hier.HierFault.TheVariants as reading
use Rattle.sc_sched.specs.Text.{IsTextOf}
use Rattle.sc_syntax.proofs.Once.{no_tokens}
use Rattle.sc_syntax.proofs.SameTokens.{same_tokens, same_fault}
use Rattle.sc_syntax.specs.Alike.{Alike, pure_source}
use Rattle.sc_syntax.specs.Lexing.{IsLexed, HasFault}
use Rattle.sc_syntax.specs.declared.Source.{Source}
use Rattle.sc_syntax.specs.declared.Token.{Token}
use Rattle.sc_types.proofs.OneFault.{one_fault as one_type_fault}
use Rattle.sc_types.specs.Sources.{fault_of}
use Rattle.sc_types.specs.Typing.{TypedSource}
use Rattle.sc_top.specs.Answers.{IsText, SourceOf, Says, OfRequest, HasOneAnswer}
use Rattle.sc_words.specs.Words.{request}
use Rattle.sc_meaning.specs.declared.choice.Choice.TheVariants.{Replace}
use Rattle.sc_top.specs.Drills.{drill_text}
use Rattle.sc_top.proofs.ExpansionLemmas.{one_counted}
use Rattle.sc_top.proofs.CoarseLemmas.{one_coarsened}
use Rattle.sc_top.proofs.ListLemmas.{one_listed}
use Rattle.sc_top.proofs.ModeLemmas.{one_summarized, one_scheduled}
use Rattle.sc_top.proofs.OtherLemmas.{one_opened, one_shortened}
use Rattle.sc_top.specs.Endings.{Output}
use Rattle.sc_top.specs.Expansions.{ones, IsDeckOf, IsOversized, IsSized, IsWritable, IsExpansion}
use Rattle.sc_top.specs.Fault.{token_refusal, grammar_refusal, type_refusal, elab_refusal, flat_refusal, plan_refusal, hier_refusal}
use Rattle.sc_top.specs.Sources.{IsTokens, IsTree, IsTyped, IsElaborated, IsSource}
use Rattle.sc_top.specs.Stages.{Then, stops, goes, HasOne, HasOneLike}
use Rattle.sc_top.specs.Verdicts.{IsList, IsPlan, IsVerdict}
use Rattle.sc_top.specs.Watching.{Watcher, asked_of}
use Rattle.sc_top.specs.declared.fault.Refusal.{Refusal}
use Rattle.sc_words.specs.declared.Request.{Request}
use Rattle.sc_words.specs.declared.Request.TheVariants.{Hier, Flat, Count, Schedule, Expand, Check, Drill, Coarse, ToOpen, FromOpen, Cancel}
use Rattle.sc_top.proofs.FewGates.{few_gates}
use Rattle.sc_top.proofs.SourceLaws.{modules_alike}
use Rattle.sc_top.specs.Tallied.{durations}
use Rattle.sc_top.proofs.StageLemmas.{given, refused, same_some, gives_one, known_fault, then_one_like, then_one, is_one}

not_none : {A : Type 0} {a : A} {found : Option A} → found ≡ Some a → found ≡ None → ⊥
not_none {A} {a} some none = let impossible : Some a ≡ None = sym some ∙ none in cc

-- refusals of one mistake
same_mistake : {M : Type 0} {m n : M} {r s : Refusal} (of : M → Option Refusal) → m ≡ n → of m ≡ Some r → of n ≡ Some s → r ≡ s
same_mistake of same one other = same_some one (ap of same ∙ other)

one_text : (held : List ℕ → Option (List ℕ)) (most : ℕ) (file : List ℕ) → HasOne (IsText held most file)
one_text held most file (Ok a) (Ok b) (holds, le) (also, other) = ap (given (List ℕ)) (same_some holds also)
one_text held most file (Ok a) (Err s) (holds, le) (text, also, past, is) = let same = ap length (same_some holds also) in absurd (omega arith)
one_text held most file (Err r) (Ok b) (text, holds, past, is) (also, le) = let same = ap length (same_some holds also) in absurd (omega arith)
one_text held most file (Err r) (Err s) (text, holds, past, is) (other, also, more, too) = ap (refused (List ℕ)) (is ∙ sym too)

-- ---- a source

one_refusal : (t u : TypedSource) → program_of t ≡ program_of u → refusal t ≡ refusal u
one_refusal t u same = ap (λ (p : Program). refusal_of (run_program p)) same

one_tokens : (text : List ℕ) → HasOne (IsTokens text)
one_tokens text =
    gives_one (IsLexed text) (HasFault text) token_refusal (λ a b. same_tokens) (λ tokens mistake r is lexed has. no_tokens text mistake tokens has lexed) (λ m n r s is was. same_fault)

tree_like : (text : List ℕ) (tokens : List Token) → HasOneLike Alike (IsTree text tokens)
tree_like text tokens = record {
  one = λ r s (m, has, is) (n, had, was). same_mistake grammar_refusal (one_fault.one text tokens m n has had) is was;
  apart = λ r tree (m, has, is) (accepted, derives). one_fault.or_accepted text tokens m has accepted;
  alike = λ a b (accepted, derives) (also, other). one_tree text tokens a b derives other;
}

-- one program has one refusal, and one deck
elab_alike : (choice : Choice) (t u : TypedSource) → program_of t ≡ program_of u → (r s : Result (List Module) Refusal) → IsElaborated choice t r → IsElaborated choice u s → r ≡ s
elab_alike choice t u same (Ok a) (Ok b) (runs, is) (also, was) =
    ap (given (List Module)) (is ∙ modules_alike t u choice (ap (λ (p : Program). instances_of choice (events_of (run_program p))) same) ∙ sym was)
elab_alike choice t u same (Ok a) (Err s) (runs, is) (fault, there, was) = absurd (not_none there (sym (one_refusal t u same) ∙ runs))
elab_alike choice t u same (Err r) (Ok b) (fault, here, is) (also, was) = absurd (not_none here (one_refusal t u same ∙ also))
elab_alike choice t u same (Err r) (Err s) (fault, here, is) (other, there, was) =
    ap (refused (List Module)) (same_mistake elab_refusal (same_some here (one_refusal t u same ∙ there)) is was)

-- alike trees have one fault, or one program
tree_alike : (choice : Choice) (a b : Source) → Alike a b → (r s : Result (List Module) Refusal) → Then (IsTyped a) (IsElaborated choice) r → Then (IsTyped b) (IsElaborated choice) s → r ≡ s
tree_alike choice a b alike _ _ (stops f (m, here, is)) (stops g (n, there, was)) =
    ap (refused (List Module)) (same_mistake type_refusal (same_some here (one_type_fault a b alike ∙ there)) is was)
tree_alike choice a b alike _ _ (stops f (m, here, is)) (goes u s (same, typed) y) =
    absurd (not_none here (one_type_fault a b alike ∙ ap fault_of (sym same) ∙ typed.checked.well_typed))
tree_alike choice a b alike _ _ (goes t r (same, typed) x) (stops g (n, there, was)) =
    absurd (not_none there (sym (one_type_fault a b alike) ∙ ap fault_of (sym same) ∙ typed.checked.well_typed))
tree_alike choice a b alike _ _ (goes t r (same, typed) x) (goes u s (also, other) y) =
    elab_alike choice t u (is_one_program t u typed.main other.main typed.checked other.checked (ap pure_source same ∙ alike ∙ sym (ap pure_source also))) r s x y

one_source : (choice : Choice) (text : List ℕ) → HasOne (IsSource choice text)
one_source choice text = then_one (one_tokens text) (λ tokens lexed. then_one_like (tree_like text tokens) (λ a b here there alike r s x y. tree_alike choice a b alike r s x y))

pub one_source_of : (held : List ℕ → Option (List ℕ)) (file : List ℕ) (choice : Choice) → HasOne (SourceOf held file choice)
one_source_of held file choice = then_one (one_text held most_source_bytes file) (λ text read. one_source choice text)

-- ---- a hierarchical text

one_deck : (text : List ℕ) → HasOne (IsDeckOf text)
one_deck text =
    gives_one (IsHierText text) (IsHierFault text) hier_refusal (one_hier_text text)
    (λ modules f r is read. no_hier_fault text modules f read (known_fault hier_refusal reading.Memory f r refl is))
    (λ f g r s is was. one_hier_fault text f g (known_fault hier_refusal reading.Memory f r refl is) (known_fault hier_refusal reading.Memory g s refl was))

one_oversize : (limit : ℕ) (modules : List Module) (r s : Refusal) → IsOversized limit modules r → IsOversized limit modules s → r ≡ s
one_oversize limit modules r s (inl (many, is)) (inl (also, was)) = is ∙ sym was
one_oversize limit modules r s (inl (many, is)) (inr (narrow, more, was)) = absurd (narrow many)
one_oversize limit modules r s (inr (narrow, more, is)) (inl (many, was)) = absurd (narrow many)
one_oversize limit modules r s (inr (narrow, more, is)) (inr (also, too, was)) = is ∙ sym was

one_sized : (limit : ℕ) (modules : List Module) → HasOne (IsSized limit modules)
one_sized limit modules (Ok a) (Ok b) (narrow, few, is) (also, le, was) = ap (given (List Module)) (is ∙ sym was)
one_sized limit modules (Ok a) (Err s) (narrow, few, is) (inl (many, was)) = absurd (narrow many)
one_sized limit modules (Ok a) (Err s) (narrow, few, is) (inr (also, more, was)) = absurd (omega arith)
one_sized limit modules (Err r) (Ok b) (inl (many, is)) (narrow, few, was) = absurd (narrow many)
one_sized limit modules (Err r) (Ok b) (inr (also, more, is)) (narrow, few, was) = absurd (omega arith)
one_sized limit modules (Err r) (Err s) one other = ap (refused (List Module)) (one_oversize limit modules r s one other)

one_writable : (limit : ℕ) (modules : List Module) → HasOne (IsWritable limit modules)
one_writable limit modules = then_one (one_counted ones modules) (λ counted within. one_sized limit modules)

one_expansion : (limit : ℕ) (text : List ℕ) → HasOne (IsExpansion limit text)
one_expansion limit text = then_one (one_deck text) (λ modules read. one_writable limit modules)

-- ---- a flat text and a schedule

no_list_fault : (text : List ℕ) (list : FlatText) (fault : FlatFault) (r : Refusal) → flat_refusal fault ≡ Some r → IsFlatText text list → IsFlatFault text fault → ⊥
no_list_fault text list listing.SchedTooLarge r is read many = not_too_many_gates text list read many
no_list_fault text list (listing.BadQasm line) r is read bad = no_bad_flat_line text list line read bad
no_list_fault text list listing.Memory r is read has = known_fault flat_refusal listing.Memory listing.Memory r refl is refl

one_list_fault : (text : List ℕ) (f g : FlatFault) (r s : Refusal) → flat_refusal f ≡ Some r → flat_refusal g ≡ Some s → IsFlatFault text f → IsFlatFault text g → f ≡ g
one_list_fault text listing.SchedTooLarge listing.SchedTooLarge r s is was many also = refl
one_list_fault text listing.SchedTooLarge (listing.BadQasm n) r s is was many bad = absurd (bad_or_too_many text n bad many)
one_list_fault text (listing.BadQasm m) listing.SchedTooLarge r s is was bad many = absurd (bad_or_too_many text m bad many)
one_list_fault text (listing.BadQasm m) (listing.BadQasm n) r s is was bad worse = ap listing.BadQasm (one_bad_flat_line text m n bad worse)
one_list_fault text listing.Memory g r s is was has had = absurd (known_fault flat_refusal listing.Memory listing.Memory r refl is refl)
one_list_fault text listing.SchedTooLarge listing.Memory r s is was has had = absurd (known_fault flat_refusal listing.Memory listing.Memory s refl was refl)
one_list_fault text (listing.BadQasm m) listing.Memory r s is was has had = absurd (known_fault flat_refusal listing.Memory listing.Memory s refl was refl)

one_list : (text : List ℕ) → HasOne (IsList text)
one_list text = gives_one (IsFlatText text) (IsFlatFault text) flat_refusal (one_flat_text text) (no_list_fault text) (one_list_fault text)

no_plan_fault : (gates : ℕ) (text : List ℕ) → gates < 2 ^ 32 → (plan : _) (fault : SchedReadFault) (r : Refusal) → plan_refusal fault ≡ Some r → IsTextOf gates text plan → IsReadFault gates text fault → ⊥
no_plan_fault gates text small plan (planning.BadSchedule line) r is read bad = no_bad_line gates text plan line small read bad
no_plan_fault gates text small plan planning.Memory r is read has = known_fault plan_refusal planning.Memory planning.Memory r refl is refl

one_plan_fault : (gates : ℕ) (text : List ℕ) → gates < 2 ^ 32 → (f g : SchedReadFault) (r s : Refusal) → plan_refusal f ≡ Some r → plan_refusal g ≡ Some s → IsReadFault gates text f → IsReadFault gates text g → f ≡ g
one_plan_fault gates text small (planning.BadSchedule m) (planning.BadSchedule n) r s is was bad worse = ap planning.BadSchedule (one_bad_line gates text m n small bad worse)
one_plan_fault gates text small planning.Memory g r s is was has had = absurd (known_fault plan_refusal planning.Memory planning.Memory r refl is refl)
one_plan_fault gates text small (planning.BadSchedule m) planning.Memory r s is was has had = absurd (known_fault plan_refusal planning.Memory planning.Memory s refl was refl)

one_plan : (gates : ℕ) (text : List ℕ) → gates < 2 ^ 32 → HasOne (IsPlan gates text)
one_plan gates text small =
    gives_one (IsTextOf gates text) (IsReadFault gates text) plan_refusal (λ s t. one_schedule_of gates text s t small) (no_plan_fault gates text small) (one_plan_fault gates text small)

small : (n : ℕ) → n ≤ most_gates → n < 2 ^ 32
small n few = omega arith

one_verdict : (flat schedule : List ℕ) → HasOne (IsVerdict flat schedule)
one_verdict flat schedule =
    then_one (one_list flat) (λ list read. then_one (one_plan (length list.gates) schedule (small (length list.gates) (few_gates flat list read))) (λ plan also. is_one _))

-- ---- a request

says_one : (held : List ℕ → Option (List ℕ)) (all : List Watcher) (job : Request) → HasOne (Says held all job)
says_one held all (Hier file choice) = then_one (one_source_of held file choice) (λ modules built. is_one _)
says_one held all (Flat file choice limit kinds burst window reach) =
    then_one (then_one (one_source_of held file choice) (λ modules built. one_writable limit modules)) (λ modules sized. is_one _)
says_one held all (Count file choice times) = then_one (then_one (one_source_of held file choice) (λ modules built. one_summarized (durations times) modules)) (λ s summed. is_one _)
says_one held all (Schedule file choice k d lpfs times) = then_one (then_one (one_source_of held file choice) (λ modules built. one_scheduled k d lpfs (durations times) modules)) (λ plan scheduled. is_one _)
says_one held all (Expand file limit) = then_one (then_one (one_text held most_text_bytes file) (λ text read. one_expansion limit text)) (λ modules sized. is_one _)
says_one held all (Check list schedule) =
    then_one (then_one (one_text held most_text_bytes list) (λ gates read. then_one (one_text held most_text_bytes schedule) (λ plan also. one_verdict gates plan))) (λ found judged. is_one _)
says_one held all (Drill n) = then_one (then_one (one_source Replace (drill_text n)) (λ modules built. one_summarized ones modules)) (λ summary told. is_one _)
says_one held all (Coarse file choice k d lpfs) = then_one (then_one (one_source_of held file choice) (λ modules built. one_coarsened k d lpfs modules)) (λ c coarse. is_one _)
says_one held all (ToOpen file choice) = then_one (then_one (one_source_of held file choice) (λ modules built. one_listed ones modules)) (λ list listed. is_one _)
says_one held all (FromOpen file) = then_one (then_one (one_text held most_text_bytes file) (λ text read. one_opened text)) (λ opened is. is_one _)
says_one held all (Cancel file choice kinds burst window reach) = then_one (then_one (one_source_of held file choice) (λ modules built. one_shortened (asked_of (record { kinds = kinds; burst = burst; window = window; reach = reach }) all) modules)) (λ text kept. is_one _)

of_one : (held : List ℕ → Option (List ℕ)) (all : List Watcher) (found : Option Request) (a b : Result Output Refusal) →
    OfRequest (λ job. Says held all job a) found → OfRequest (λ job. Says held all job b) found → a ≡ b
of_one held all None a b one other = absurd one
of_one held all (Some job) a b one other = says_one held all job a b one other

pub one_answer : HasOneAnswer
one_answer held all words a b one other = of_one held all (request words) a b one other
