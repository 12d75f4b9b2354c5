-- What items call, one item more.
use Rattle.std.proofs.Common.{◌≡◌, ℕ, ◌+◌, ◌<◌, Bool, ◌||◌, max, List, [], ◌∷◌, ◌++◌, map, length, take, get_or, sym, ap, ◌∙◌, arith}
use Rattle.std.specs.Prelude.{slice_index, nat_eq}
use Rattle.std.specs.List.{list_any}
use Rattle.std.proofs.Math.Bool.{or_assoc}
use Rattle.std.proofs.lemmas.List.{take_more, map-append}
use Rattle.std.proofs.lemmas.List.Elements.{filter_map-append}
use Rattle.std.proofs.lemmas.List.Folds.{list_any-append}
use Rattle.sc_deck.specs.declared.item.Item.{Item}
use Rattle.sc_deck.specs.Items.{callee_of, callees_of}
use Rattle.sc_deck.specs.Modules.{greatest, greatest_called}

pub greatest-append : (ns ms : List ℕ) → greatest (ns ++ ms) ≡ max (greatest ns) (greatest ms)
greatest-append [] ms = omega arith
greatest-append (n ∷ ns) ms = let h = greatest-append ns ms in omega arith

callees-more : (items : List Item) (i : ℕ) (x : Item) → i < length items → x ≡ get_or items i x → callees_of (take (i + 1) items) ≡ callees_of (take i items) ++ callees_of (x ∷ [])
callees-more items i x below at =
    ap callees_of (take_more items i x below ∙ ap (λ (y : Item). take i items ++ y ∷ []) (sym at)) ∙ filter_map-append callee_of (take i items) (x ∷ [])

-- the greatest number called, one item later
pub called_more : (numbers : List ℕ) (items : List Item) (i : ℕ) (x : Item) → i < length items → x ≡ get_or items i x → greatest_called numbers (take (i + 1) items) ≡ max (greatest_called numbers (take i items)) (greatest_called numbers (x ∷ []))
called_more numbers items i x below at =
    ap (λ (cs : List ℕ). greatest (map (slice_index numbers) cs)) (callees-more items i x below at)
    ∙ ap greatest (map-append (slice_index numbers) (callees_of (take i items)) (callees_of (x ∷ [])))
    ∙ greatest-append (map (slice_index numbers) (callees_of (take i items))) (map (slice_index numbers) (callees_of (x ∷ [])))

-- whether a number is called, one item later
pub any_more : (k : ℕ) (items : List Item) (i : ℕ) (x : Item) (before now was : Bool) → i < length items → x ≡ get_or items i x → before ≡ (was || list_any (nat_eq k) (callees_of (take i items))) → now ≡ (before || list_any (nat_eq k) (callees_of (x ∷ []))) → now ≡ (was || list_any (nat_eq k) (callees_of (take (i + 1) items)))
any_more k items i x before now was below at so_far step =
    step ∙ ap (λ (b : Bool). b || list_any (nat_eq k) (callees_of (x ∷ []))) so_far
    ∙ or_assoc was (list_any (nat_eq k) (callees_of (take i items))) (list_any (nat_eq k) (callees_of (x ∷ [])))
    ∙ ap (λ (b : Bool). was || b) (sym (list_any-append (nat_eq k) (callees_of (take i items)) (callees_of (x ∷ []))) ∙ ap (list_any (nat_eq k)) (sym (callees-more items i x below at)))
