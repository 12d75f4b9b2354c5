-- One more item at the end of a body.
use Rattle.std.proofs.lemmas.List.Elements.{All-push}
use Rattle.std.proofs.Common.{◌≡◌, ℕ, ◌+◌, ◌≤◌, List, [], ◌∷◌, ◌++◌, refl, sym, ap, ◌∙◌, subst}
use Rattle.sc_deck.specs.declared.item.Item.{Item}
use Rattle.sc_deck.specs.Bodies.{Contents, after_items, wires_of, ItemsFit, with_item, Counts}
use Rattle.sc_deck.specs.Items.{after_item, ItemFits, ItemInRange}
use Rattle.sc_gate.specs.Numbers.{Numbers, both}

pub after_items-push : (numbers : Numbers) (items : List Item) (i : Item) → after_items numbers (items ++ i ∷ []) ≡ after_item (after_items numbers items) i
after_items-push numbers [] i = refl
after_items-push numbers (j ∷ items) i = after_items-push (after_item numbers j) items i

pub ItemsFit-push : (numbers : Numbers) (items : List Item) (i : Item) → ItemsFit numbers items → ItemFits (after_items numbers items) i → ItemsFit numbers (items ++ i ∷ [])
ItemsFit-push numbers [] i fit here = (here, tt)
ItemsFit-push numbers (j ∷ items) i fit here = (fit.0, ItemsFit-push (after_item numbers j) items i fit.1 here)

pub counts_push : (body : Contents) (wires : Numbers) (i : Item) → Counts body wires → ItemFits (wires_of body) i → ItemInRange i → both (after_item wires i) ≤ 65536 → Counts (with_item body i) (after_item wires i)
counts_push body wires i kept here range room =
    let more : after_item wires i ≡ wires_of (with_item body i) = ap (λ n. after_item n i) kept.counted ∙ sym (after_items-push body.params body.items i) in
    record {
      counted = more;
      sound = record {
        fits = ItemsFit-push body.params body.items i kept.sound.fits here;
        narrow = subst (λ n. both n ≤ 65536) more room;
        in_range = All-push ItemInRange body.items i kept.sound.in_range range;
      };
    }

pub counted_narrow : (body : Contents) (wires : Numbers) → Counts body wires → both wires ≤ 65536
counted_narrow body wires kept = subst (λ n. both n ≤ 65536) (sym kept.counted) kept.sound.narrow

-- the same, where a push appended the item to the body's list
pub counts_more : (body : Contents) (wires : Numbers) (i : Item) (seen : Contents) (items : List Item) → Counts body wires → body ≡ seen → items ≡ body.items ++ i ∷ [] → ItemFits (wires_of seen) i → ItemInRange i → both (after_item wires i) ≤ 65536 → Counts (record { params = body.params; items = items }) (after_item wires i)
counts_more body wires i seen items kept is more here range room =
    subst (λ l. Counts (record { params = body.params; items = l }) (after_item wires i)) (sym more)
    (counts_push body wires i kept (subst (λ b. ItemFits (wires_of b) i) (sym is) here) range room)

pub room_left : (body : Contents) (wires : Numbers) (seen : Contents) (n : ℕ) → Counts body wires → body ≡ seen → both (wires_of seen) + n ≤ 65536 → both wires + n ≤ 65536
room_left body wires seen n kept is room =
    subst (λ w. both w + n ≤ 65536) (sym kept.counted) (subst (λ b. both (wires_of b) + n ≤ 65536) (sym is) room)
