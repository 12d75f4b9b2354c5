-- One more element of a list that is walked.
use Rattle.std.proofs.Common.{ℕ, ◌+◌, ◌<◌, List, [], ◌∷◌, ◌++◌, length, get_or, take, sym, ap, ◌∙◌, subst}
use Rattle.std.specs.List.{AllByRecursion}
use Rattle.std.proofs.lemmas.List.{take_more}
use Rattle.std.proofs.lemmas.List.Elements.{filter_map-append}
use Rattle.sc_deck.specs.declared.item.Item.{Item}
use Rattle.sc_deck.specs.Items.{callee_of, callees_of}

pub all_join : {X : Type 0} (P : X → Type 0) (xs ys : List X) → AllByRecursion P xs → AllByRecursion P ys → AllByRecursion P (xs ++ ys)
all_join P [] ys a b = b
all_join P (x ∷ xs) ys a b = (a.0, all_join P xs ys a.1 b)

pub all_more : {X : Type 0} (P : X → Type 0) (xs : List X) (k : ℕ) (d : X) → k < length xs → AllByRecursion P (take k xs) → P (get_or xs k d) → AllByRecursion P (take (k + 1) xs)
all_more P xs k d h a p = subst (AllByRecursion P) (sym (take_more xs k d h)) (all_join P (take k xs) (get_or xs k d ∷ []) a (p, tt))

pub callees_more : (P : ℕ → Type 0) (items : List Item) (k : ℕ) (d : Item) → k < length items → AllByRecursion P (callees_of (take k items)) → AllByRecursion P (callees_of (get_or items k d ∷ [])) →
    AllByRecursion P (callees_of (take (k + 1) items))
callees_more P items k d h a p =
    subst (AllByRecursion P) (sym (ap callees_of (take_more items k d h) ∙ filter_map-append callee_of (take k items) (get_or items k d ∷ [])))
    (all_join P (callees_of (take k items)) (callees_of (get_or items k d ∷ [])) a p)
