-- Commands with arguments one by one, and the words of a command line as clap takes them.
use Rattle.std.proofs.Common.{◌≡◌, ◌∙◌, ◌<◌, ◌≤◌, ◌+◌, ℕ, false, zero, suc, refl, sym, ap, arith, List, [], ◌∷◌, map, take, length, get_or, append_assoc, add-one}
use Rattle.std.specs.Borrow.{Bor}
use Rattle.std.proofs.Math.Seq.{take-suc}
use Rattle.std.proofs.lemmas.List.{map-append}
use Rattle.std.specs.Str.{IsUtf8}
use Rattle.std.proofs.lemmas.Str.{IsUtf8-had}
use Rattle.clap.specs.Kinds.{IsAmong, Kinds}
use Rattle.clap.specs.Simple.{App, with_rule}
use Rattle.clap.specs.Walk.{Rule}
use Rattle.clap.specs.declared.error.kind.ErrorKind.{ErrorKind}
use Rattle.sc_words.specs.WordsCommands.{with_rules}
use Rattle.sc_words.proofs.WordsStrict.{sorted_word}
use Rattle.sc_words.proofs.WordsWalk.{AllSorted, none}

-- one argument more
pub rules_more : {X : Type 0} (f : X → Rule) (start now next : App) (xs : List X) (i : ℕ) (d : X) → i < length xs → now ≡ with_rules start (map f (take i xs)) → next ≡ with_rule now (f (get_or xs i d))
    → next ≡ with_rules start (map f (take (i + 1) xs))
rules_more f start now next xs i d lt so_far step =
    step ∙ ap (λ a. with_rule a (f (get_or xs i d))) so_far ∙ ap (λ (rs : List Rule). record start { top = record start.top { rules = rs } }) (append_assoc start.top.rules (map f (take i xs)) (f (get_or xs i d) ∷ []))
    ∙ ap (with_rules start) (sym (ap (map f) (ap (λ k. take k xs) (add-one i) ∙ take-suc xs i d lt) ∙ map-append f (take i xs) (get_or xs i d ∷ [])))

pub first_names : (f : List ℕ → Rule) (count : ℕ) (p q : Bor (List ℕ)) → count ≤ 2 → map (λ b. f b.now) (take count (p ∷ q ∷ [])) ≡ map f (take count (p.now ∷ q.now ∷ []))
first_names f zero p q le = refl
first_names f (suc zero) p q le = refl
first_names f (suc (suc zero)) p q le = refl
first_names f (suc (suc (suc n))) p q le = absurd (omega arith)

-- words are text
pub text_sorted : {X : Type 0} (words : List X) (bytes : X → List ℕ) → ((word : X) → ∥ IsUtf8 (bytes word) ∥₁) → AllSorted (map bytes words)
text_sorted [] bytes text = tt
text_sorted (word ∷ words) bytes text = (sorted_word (bytes word) (IsUtf8-had (bytes word) (text word)), text_sorted words bytes text)

pub some_kind : (k : ErrorKind) (kinds : Kinds) → IsAmong k kinds → none kinds ≡ false
some_kind k [] among = absurd among
some_kind k (x ∷ xs) among = refl
