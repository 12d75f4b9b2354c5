-- Alike sources are one program.
use Rattle.std.proofs.Common.{◌≡◌, List, [], ◌∷◌, Option, Some, None, refl, sym, ap, subst}
use Rattle.std.specs.Prelude.{map}
use Rattle.sc_syntax.specs.declared.Part.{Part}
use Rattle.sc_syntax.specs.declared.Part.TheVariants as part
use Rattle.sc_syntax.specs.declared.WordFn.{WordFn}
use Rattle.sc_syntax.specs.Alike.{pure_part, pure_bind, pure_word_expr}
use Rattle.sc_word.specs.Pure.{PureWordFn, pure_word_fn}
use Rattle.sc_word.specs.Typed.{TypedWords, TypesPureFn}
use Rattle.sc_word.proofs.Uniqueness.{fn_once}
use Rattle.sc_types.specs.Typing.{IsTyped, AreTyped}
use Rattle.sc_meaning.specs.Programs.{definitions, IsOneProgram}

function_same : (f g : WordFn) → pure_part (part.Words f) ≡ pure_part (part.Words g) → pure_word_fn f ≡ pure_word_fn g
function_same f g same =
    let params : f.params ≡ g.params = cc in
    let width : f.width ≡ g.width = cc in
    let binds : map pure_bind f.binds ≡ map pure_bind g.binds = cc in
    let end : pure_word_expr f.result ≡ pure_word_expr g.result = cc in
    λ i. record { params = params i; width = width i; binds = binds i; result = end i }

typed_same : (p q : Part) (w v : Option TypedWords) → pure_part p ≡ pure_part q → IsTyped p w → IsTyped q v → w ≡ v
typed_same (part.Module m) (part.Module n) None None same h k = refl
typed_same (part.Module m) (part.Module n) None (Some u) same h k = absurd k
typed_same (part.Module m) (part.Module n) (Some t) v same h k = absurd h
typed_same (part.Module m) (part.Words g) w v same h k = absurd cc
typed_same (part.Words f) (part.Module n) w v same h k = absurd cc
typed_same (part.Words f) (part.Words g) None v same h k = absurd h
typed_same (part.Words f) (part.Words g) (Some t) None same h k = absurd k
typed_same (part.Words f) (part.Words g) (Some t) (Some u) same h k =
    ap Some (fn_once (pure_word_fn f) t u h (subst (λ (x : PureWordFn). TypesPureFn x u) (sym (function_same f g same)) k))

words_same : (ps qs : List Part) (ws vs : List (Option TypedWords)) → map pure_part ps ≡ map pure_part qs → AreTyped ps ws → AreTyped qs vs → ws ≡ vs
words_same [] [] [] [] same h k = refl
words_same [] [] [] (v ∷ vs) same h k = absurd k
words_same [] [] (w ∷ ws) vs same h k = absurd h
words_same [] (q ∷ qs) ws vs same h k = absurd cc
words_same (p ∷ ps) [] ws vs same h k = absurd cc
words_same (p ∷ ps) (q ∷ qs) [] vs same h k = absurd h
words_same (p ∷ ps) (q ∷ qs) (w ∷ ws) [] same h k = absurd k
words_same (p ∷ ps) (q ∷ qs) (w ∷ ws) (v ∷ vs) same h k =
    let here : pure_part p ≡ pure_part q = cc in
    let rest : map pure_part ps ≡ map pure_part qs = cc in
    let one = typed_same p q w v here h.0 k.0 in
    let more = words_same ps qs ws vs rest h.1 k.1 in
    λ i. one i ∷ more i

pub is_one_program : IsOneProgram
is_one_program t u i j h k same =
    let words = words_same t.source.parts u.source.parts t.words u.words same h.words k.words in
    λ i. definitions (same i) (words i)
