-- Several texts in a row, gathered.
use Rattle.std.proofs.Common.{◌≡◌, ℕ, ◌+◌, ◌<◌, ◌≤◌, Bool, List, [], ◌++◌, length, get_or, take, drop, refl, sym, ap, ◌∙◌, append_assoc}
use Rattle.std.proofs.lemmas.List.{append-nil, take_all}
use Rattle.std.specs.Prelude.{flat_map}
use Rattle.sc_base.specs.Output.{Wrote, WrotePrefix}
use Rattle.sc_base.proofs.OutputLemmas.{wrote_then, wrote_nothing}
use Rattle.sc_base.proofs.LoopLemmas.{flat_more, flat_cut}
use Rattle.sc_hier.specs.Gathering.{Gathers, GathersPrefix}

-- one text after another
pub gathers_then : {S : Type 0} {tells : S → Bool} {bytes : S → List ℕ} {old mid new : S} {h0 h1 h2 x y : List ℕ} →
    Gathers tells bytes old mid h0 h1 x → Gathers tells bytes mid new h1 h2 y → Gathers tells bytes old new h0 h2 (x ++ y)
gathers_then {h0 = h0} {h1 = h1} {h2 = h2} {x = x} {y = y} first second = record {
  taken = first.taken ++ second.taken;
  whole = sym (append_assoc h0 x y) ∙ (ap (λ t. t ++ y) first.whole ∙ (append_assoc first.taken h1 y
      ∙ (ap (λ t. first.taken ++ t) second.whole ∙ sym (append_assoc first.taken second.taken h2))));
  wrote = wrote_then first.wrote second.wrote;
}

-- nothing yet
pub gathers_nothing : {S : Type 0} (tells : S → Bool) (bytes : S → List ℕ) (old : S) (held : List ℕ) → Gathers tells bytes old old held held []
gathers_nothing tells bytes old held = record { taken = []; whole = append-nil held; wrote = wrote_nothing tells bytes old }

-- a text that is held
pub gathers_held : {S : Type 0} (tells : S → Bool) (bytes : S → List ℕ) (old : S) (held after text : List ℕ) → after ≡ held ++ text →
    Gathers tells bytes old old held after text
gathers_held tells bytes old held after text same = record { taken = []; whole = sym same; wrote = wrote_nothing tells bytes old }

-- a text that is handed over where nothing is held
pub gathers_direct : {S : Type 0} {tells : S → Bool} {bytes : S → List ℕ} {old new : S} {text : List ℕ} (held : List ℕ) → held ≡ [] →
    Wrote tells bytes old new text → Gathers tells bytes old new held held text
gathers_direct {text = text} held none wrote = rw none (record { taken = text; whole = sym (append-nil text); wrote = wrote })

-- a prefix of a text that is handed over where nothing is held
pub prefix_direct : {S : Type 0} {tells : S → Bool} {bytes : S → List ℕ} {old new : S} {text : List ℕ} (held : List ℕ) → held ≡ [] →
    WrotePrefix tells bytes old new text → GathersPrefix tells bytes old new held text
prefix_direct held none p = rw none (record { left = p.rest; gathers = record { taken = p.taken; whole = p.whole; wrote = p.wrote } })

-- what is held is handed over
pub gathers_flush : {S : Type 0} {tells : S → Bool} {bytes : S → List ℕ} {old new : S} {held : List ℕ} (after : List ℕ) → after ≡ [] →
    Wrote tells bytes old new held → Gathers tells bytes old new held after []
gathers_flush {held = held} after none wrote = rw none (record { taken = held; whole = refl; wrote = wrote })

-- or a prefix of it
pub prefix_flush : {S : Type 0} {tells : S → Bool} {bytes : S → List ℕ} {old new : S} {held : List ℕ} →
    WrotePrefix tells bytes old new held → GathersPrefix tells bytes old new held []
prefix_flush {held = held} p = record { left = p.rest; gathers = record { taken = p.taken; whole = append-nil held ∙ p.whole; wrote = p.wrote } }

-- a whole text is a prefix of itself
pub prefix_all : {S : Type 0} {tells : S → Bool} {bytes : S → List ℕ} {old new : S} {h0 h1 x : List ℕ} →
    Gathers tells bytes old new h0 h1 x → GathersPrefix tells bytes old new h0 x
prefix_all {h1 = h1} first = record { left = h1; gathers = first }

-- a prefix of the text is a prefix of a longer one
pub prefix_before : {S : Type 0} {tells : S → Bool} {bytes : S → List ℕ} {old new : S} {h0 x : List ℕ} (y : List ℕ) →
    GathersPrefix tells bytes old new h0 x → GathersPrefix tells bytes old new h0 (x ++ y)
prefix_before {h0 = h0} {x = x} y p = record {
  left = p.left ++ y;
  gathers = record {
    taken = p.gathers.taken;
    whole = sym (append_assoc h0 x y) ∙ (ap (λ t. t ++ y) p.gathers.whole ∙ append_assoc p.gathers.taken p.left y);
    wrote = p.gathers.wrote;
  };
}

-- a prefix of the second text after the whole first one
pub prefix_after : {S : Type 0} {tells : S → Bool} {bytes : S → List ℕ} {old mid new : S} {h0 h1 x y : List ℕ} →
    Gathers tells bytes old mid h0 h1 x → GathersPrefix tells bytes mid new h1 y → GathersPrefix tells bytes old new h0 (x ++ y)
prefix_after first p = record { left = p.left; gathers = gathers_then first p.gathers }

-- the same text, written otherwise
pub gathers_as : {S : Type 0} {tells : S → Bool} {bytes : S → List ℕ} {old new : S} {h0 h1 x : List ℕ} (text : List ℕ) → text ≡ x →
    Gathers tells bytes old new h0 h1 x → Gathers tells bytes old new h0 h1 text
gathers_as text same first = rw same first

pub gathers_prefix_as : {S : Type 0} {tells : S → Bool} {bytes : S → List ℕ} {old new : S} {h0 x : List ℕ} (text : List ℕ) → text ≡ x →
    GathersPrefix tells bytes old new h0 x → GathersPrefix tells bytes old new h0 text
gathers_prefix_as text same first = rw same first

-- where nothing is held before and after, the sink got the text
pub wrote_gathered : {S : Type 0} {tells : S → Bool} {bytes : S → List ℕ} {old new : S} {h0 h1 x : List ℕ} → h0 ≡ [] → h1 ≡ [] →
    Gathers tells bytes old new h0 h1 x → Wrote tells bytes old new x
wrote_gathered {tells = tells} {bytes = bytes} {old = old} {new = new} {x = x} none gone g =
    let same : x ≡ g.taken = sym (ap (λ h. h ++ x) none) ∙ (g.whole ∙ (ap (λ h. g.taken ++ h) gone ∙ append-nil g.taken)) in
    rw same g.wrote

-- where nothing is held before, the sink got a prefix of the text
pub prefix_gathered : {S : Type 0} {tells : S → Bool} {bytes : S → List ℕ} {old new : S} {h0 x : List ℕ} → h0 ≡ [] →
    GathersPrefix tells bytes old new h0 x → WrotePrefix tells bytes old new x
prefix_gathered {x = x} none p = record {
  taken = p.gathers.taken;
  rest = p.left;
  whole = sym (ap (λ h. h ++ x) none) ∙ p.gathers.whole;
  wrote = p.gathers.wrote;
}

-- one turn of a loop: the piece `y` of the element at `i` was gathered
pub gathers_step : {S A : Type 0} {tells : S → Bool} {bytes : S → List ℕ} {old mid new : S} {h0 h1 h2 : List ℕ} (f : A → List ℕ) (xs : List A) (i : ℕ) (d : A) (y : List ℕ) →
    i < length xs → f (get_or xs i d) ≡ y →
    Gathers tells bytes old mid h0 h1 (flat_map f (take i xs)) → Gathers tells bytes mid new h1 h2 y →
    Gathers tells bytes old new h0 h2 (flat_map f (take (i + 1) xs))
gathers_step f xs i d y within is first second =
    gathers_as _ (flat_more f xs i d within ∙ ap (λ (z : List ℕ). flat_map f (take i xs) ++ z) is) (gathers_then first second)

-- a fault in the turn at `i`
pub gathers_fault : {S A : Type 0} {tells : S → Bool} {bytes : S → List ℕ} {old mid new : S} {h0 h1 : List ℕ} (f : A → List ℕ) (xs : List A) (i : ℕ) (d : A) (y : List ℕ) →
    i < length xs → f (get_or xs i d) ≡ y →
    Gathers tells bytes old mid h0 h1 (flat_map f (take i xs)) → GathersPrefix tells bytes mid new h1 y → GathersPrefix tells bytes old new h0 (flat_map f xs)
gathers_fault f xs i d y within is first second =
    gathers_prefix_as _ (flat_cut f xs (i + 1)) (prefix_before (flat_map f (drop (i + 1) xs))
    (gathers_prefix_as _ (flat_more f xs i d within ∙ ap (λ (z : List ℕ). flat_map f (take i xs) ++ z) is) (prefix_after first second)))

-- the loop is over
pub gathers_done : {S A : Type 0} {tells : S → Bool} {bytes : S → List ℕ} {old new : S} {h0 h1 : List ℕ} (f : A → List ℕ) (xs : List A) (i : ℕ) → length xs ≤ i →
    Gathers tells bytes old new h0 h1 (flat_map f (take i xs)) → Gathers tells bytes old new h0 h1 (flat_map f xs)
gathers_done f xs i over first = gathers_as _ (ap (flat_map f) (sym (take_all i xs over))) first
