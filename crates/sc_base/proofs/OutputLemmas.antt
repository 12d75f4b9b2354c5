-- Several writes in a row.
use Rattle.std.proofs.Common.{◌≡◌, ℕ, Bool, List, [], ◌++◌, refl, sym, ap, ◌∙◌, append_assoc}
use Rattle.std.proofs.lemmas.List.{append-nil}
use Rattle.sc_base.specs.Output.{Wrote, WrotePrefix}

-- one text after another
pub wrote_then : {S : Type 0} {tells : S → Bool} {bytes : S → List ℕ} {old mid new : S} {x y : List ℕ} →
    Wrote tells bytes old mid x → Wrote tells bytes mid new y → Wrote tells bytes old new (x ++ y)
wrote_then {tells = tells} {bytes = bytes} {old = old} {mid = mid} {x = x} {y = y} first second = record {
  tells_still = second.tells_still ∙ first.tells_still;
  appended = λ told. second.appended (first.tells_still ∙ told) ∙ ap (λ m. m ++ y) (first.appended told) ∙ append_assoc (bytes old) x y;
}

-- nothing yet
pub wrote_nothing : {S : Type 0} (tells : S → Bool) (bytes : S → List ℕ) (old : S) → Wrote tells bytes old old []
wrote_nothing tells bytes old = record { tells_still = refl; appended = λ told. sym (append-nil (bytes old)) }

-- a whole text is a prefix of itself
pub prefix_whole : {S : Type 0} {tells : S → Bool} {bytes : S → List ℕ} {old new : S} {x : List ℕ} →
    Wrote tells bytes old new x → WrotePrefix tells bytes old new x
prefix_whole {x = x} first = record { taken = x; rest = []; whole = sym (append-nil x); wrote = first }

-- a prefix of the text is a prefix of a longer one
pub prefix_more : {S : Type 0} {tells : S → Bool} {bytes : S → List ℕ} {old new : S} {x : List ℕ} (y : List ℕ) →
    WrotePrefix tells bytes old new x → WrotePrefix tells bytes old new (x ++ y)
prefix_more y p = record {
  taken = p.taken;
  rest = p.rest ++ y;
  whole = ap (λ x. x ++ y) p.whole ∙ append_assoc p.taken p.rest y;
  wrote = p.wrote;
}

-- a prefix of the second text after the whole first one
pub prefix_then : {S : Type 0} {tells : S → Bool} {bytes : S → List ℕ} {old mid new : S} {x y : List ℕ} →
    Wrote tells bytes old mid x → WrotePrefix tells bytes mid new y → WrotePrefix tells bytes old new (x ++ y)
prefix_then {x = x} first p = record {
  taken = x ++ p.taken;
  rest = p.rest;
  whole = ap (λ t. x ++ t) p.whole ∙ sym (append_assoc x p.taken p.rest);
  wrote = wrote_then first p.wrote;
}

-- the same text, written otherwise
pub wrote_as : {S : Type 0} {tells : S → Bool} {bytes : S → List ℕ} {old new : S} {x : List ℕ} (text : List ℕ) → text ≡ x →
    Wrote tells bytes old new x → Wrote tells bytes old new text
wrote_as {tells = tells} {bytes = bytes} {old = old} {new = new} text same first = rw same first

-- a fault in the middle of a text
pub prefix_at : {S : Type 0} {tells : S → Bool} {bytes : S → List ℕ} {old mid new : S} {x y : List ℕ} (text z : List ℕ) → text ≡ x ++ y ++ z →
    Wrote tells bytes old mid x → WrotePrefix tells bytes mid new y → WrotePrefix tells bytes old new text
prefix_at text z same first p = rw same (prefix_more z (prefix_then first p))
