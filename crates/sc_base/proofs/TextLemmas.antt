-- Texts under names.
use Rattle.std.proofs.Common.{◌≡◌, ℕ, ◌+◌, ◌<◌, ◌≤◌, List, [], ◌∷◌, ◌++◌, length, get_or, drop, Option, None, Some, refl, add-one, true, false, ◌∙◌, if◌then◌else◌, drop-cons}
use Rattle.std.proofs.lemmas.Option.{slice_get_past, slice_get_read}
use Rattle.std.specs.Prelude.{slice_get}
use Rattle.sc_base.specs.Texts.{text_under, text_at, same}
use Rattle.sc_base.specs.declared.mem_shelf.Held.{Held}

-- one more entry goes before all others
pub text_under-append : (known : Option (List ℕ)) (texts : List Held) (held : Held) (q : List ℕ) →
    text_under known (texts ++ held ∷ []) q ≡ (if same held.name q then Some held.text else text_under known texts q)
text_under-append known [] held q = refl
text_under-append known (x ∷ xs) held q = text_under-append (if same x.name q then Some x.text else known) xs held q

-- past the last there is no text
pub text_at_past : (texts : List Held) (i : ℕ) → length texts ≤ i → text_at texts i ≡ []
text_at_past texts i past = let e : slice_get texts i ≡ None = slice_get_past texts i past in rw e refl

-- the text of an entry that is there
pub text_at-is : (texts : List Held) (i : ℕ) (held : Held) → slice_get texts i ≡ Some held → text_at texts i ≡ held.text
text_at-is texts i held e = rw e refl

-- the text that is found so far
abbrev pub known_at : List Held → Option ℕ → Option (List ℕ)
known_at texts None = None
known_at texts (Some i) = Some (text_at texts i)

-- one entry of the search
pub text_under-step : (known : Option (List ℕ)) (texts : List Held) (i : ℕ) (held : Held) (q : List ℕ) → i < length texts → held ≡ get_or texts i held →
    text_under known (drop i texts) q ≡ text_under (if same held.name q then Some held.text else known) (drop (i + 1) texts) q
text_under-step known texts i held q within is =
    let here : drop i texts ≡ held ∷ drop (i + 1) texts = rw (add-one, drop-cons texts i held within) (rw (← is) refl) in
    rw here refl

-- the search goes past an entry with the name
pub found_here : (texts : List Held) (i : ℕ) (held : Held) (q : List ℕ) (found next : Option ℕ) → i < length texts → held ≡ get_or texts i held →
    same held.name q ≡ true → next ≡ Some i →
    text_under None texts q ≡ text_under (known_at texts found) (drop i texts) q →
    text_under None texts q ≡ text_under (known_at texts next) (drop (i + 1) texts) q
found_here texts i held q found next within is named next_is so_far =
    let step = text_under-step (known_at texts found) texts i held q within is in
    let text : text_at texts i ≡ held.text = text_at-is texts i held (slice_get_read texts (length texts) i held refl within is) in
    let yes_step : text_under (known_at texts found) (drop i texts) q ≡ text_under (Some held.text) (drop (i + 1) texts) q = rw named at step in
    rw (next_is, text) (so_far ∙ yes_step)

-- the search goes past another entry
pub found_not : (texts : List Held) (i : ℕ) (held : Held) (q : List ℕ) (found next : Option ℕ) → i < length texts → held ≡ get_or texts i held →
    same held.name q ≡ false → next ≡ found →
    text_under None texts q ≡ text_under (known_at texts found) (drop i texts) q →
    text_under None texts q ≡ text_under (known_at texts next) (drop (i + 1) texts) q
found_not texts i held q found next within is other next_is so_far =
    let step = text_under-step (known_at texts found) texts i held q within is in
    let no_step : text_under (known_at texts found) (drop i texts) q ≡ text_under (known_at texts found) (drop (i + 1) texts) q = rw other at step in
    rw next_is (so_far ∙ no_step)
