-- The names `ext` and `low`.
use Rattle.std.proofs.Common.{◌≡◌, refl, ◌∙◌, ap, Bool, true, false, codes, if◌then◌else◌}
use Rattle.sc_base.specs.Texts.{same}
use Rattle.sc_syntax.specs.declared.TokenSort.{TokenSort}
use Rattle.sc_syntax.specs.declared.TokenSort.TheVariants as sort
use Rattle.sc_parse.specs.declared.terminal.Terminal.{Terminal}
use Rattle.sc_parse.specs.declared.terminal.Terminal.TheVariants.{Word as reserved, Mark as marked, Name, Plain, Main, Ext, Low, Other, Gate, Measuring, Int, Decimal}
use Rattle.sc_parse.specs.Terminals.{kind_of, name_kind, is_ext, is_low}
use Rattle.sc_parse.specs.Pieces.{Piece, kind}
use Rattle.sc_parse.proofs.Bools.{clash}

ext_kind : (k : Terminal) → is_ext k ≡ true → k ≡ Ext
ext_kind Ext e = refl
ext_kind (reserved v) e = cc
ext_kind (marked v) e = cc
ext_kind Name e = cc
ext_kind Plain e = cc
ext_kind Main e = cc
ext_kind Low e = cc
ext_kind Other e = cc
ext_kind Gate e = cc
ext_kind Measuring e = cc
ext_kind Int e = cc
ext_kind Decimal e = cc

low_kind : (k : Terminal) → is_low k ≡ true → k ≡ Low
low_kind Low e = refl
low_kind (reserved v) e = cc
low_kind (marked v) e = cc
low_kind Name e = cc
low_kind Plain e = cc
low_kind Main e = cc
low_kind Ext e = cc
low_kind Other e = cc
low_kind Gate e = cc
low_kind Measuring e = cc
low_kind Int e = cc
low_kind Decimal e = cc

abbrev named : Bool → Bool → Bool → Terminal
named x y z = if x then Main else (if y then Ext else (if z then Low else Other))

not_low : (x y z : Bool) → y ≡ true → is_low (named x y z) ≡ false
not_low true y z e = refl
not_low false true z e = refl
not_low false false z e = cc

not_ext : (x y z : Bool) → y ≡ false → is_ext (named x y z) ≡ false
not_ext true y z e = refl
not_ext false true z e = cc
not_ext false false true e = refl
not_ext false false false e = refl

named_kind : (t : Piece) → t.token.sort ≡ sort.Name → kind t ≡ name_kind t.text
named_kind t e = ap (λ (s : TokenSort). kind_of s t.text) e

pub must_be_ext : (t : Piece) → t.token.sort ≡ sort.Name → same t.text (codes "ext") ≡ true → (is_ext (kind t) ≡ false → is_low (kind t) ≡ true) → kind t ≡ Ext
must_be_ext t s e k = go (is_ext (kind t)) refl
  where
    go : (b : Bool) → is_ext (kind t) ≡ b → kind t ≡ Ext
    go true i = ext_kind (kind t) i
    go false i = absurd (clash (is_low (kind t)) (k i) (ap is_low (named_kind t s) ∙ not_low (same t.text (codes "main")) _ _ e))

pub must_be_low : (t : Piece) → t.token.sort ≡ sort.Name → same t.text (codes "ext") ≡ false → (is_ext (kind t) ≡ false → is_low (kind t) ≡ true) → kind t ≡ Low
must_be_low t s e k = low_kind (kind t) (k (ap is_ext (named_kind t s) ∙ not_ext (same t.text (codes "main")) _ (same t.text (codes "low")) e))
