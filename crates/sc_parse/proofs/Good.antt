-- Stacks that are read with one token of look-ahead.
use Rattle.std.proofs.Common.{◌≡◌, Bool, true, false, not, ◌&&◌, ◌||◌, [], ◌∷◌, Option, Some, None, ◌⊎◌, inl, inr}
use Rattle.std.specs.List.{list_all}
use Rattle.sc_parse.specs.Form.{Form, empty, one, sub, ◌⨾◌, ◌∣◌, many, nested, unless, Symbol}
use Rattle.sc_parse.specs.Rules.{rule}
use Rattle.sc_parse.specs.Runs.{passes, first, starts, Stack}
use Rattle.sc_parse.specs.declared.terminal.Terminal.{Terminal}
use Rattle.sc_parse.proofs.Bools.{or_first, or_second, and_both, and_fst, and_snd, not_true, implied, excluded}
use Rattle.sc_parse.proofs.Tables.{kinds, every, follow, after, never, apart, ok, rules_ok}

-- g, and then what Φ allows, may begin with h
abbrev pub After : Form → (Terminal → Type 0) → Terminal → Type 0
After g Φ h = (first g h ≡ true) ⊎ ((passes g (Some h) ≡ true) × Φ h)

abbrev pub Never : Form → Type 0
Never f = (h : Option Terminal) → passes f h ≡ false

abbrev pub Ok : Form → (Terminal → Type 0) → Type 0
Ok empty Φ = Unit {0}
Ok (one k) Φ = Unit {0}
Ok (sub s) Φ = (h : Terminal) → Φ h → follow s h ≡ true
Ok (f ⨾ g) Φ = Ok f (After g Φ) × Ok g Φ
Ok (f ∣ g) Φ = Ok f Φ × Ok g Φ × Never f × ((h : Terminal) → first f h ≡ true → After g Φ h → ⊥)
Ok (many f) Φ = Ok f (After (many f) Φ) × Never f × ((h : Terminal) → first f h ≡ true → Φ h → ⊥)
Ok (nested f) Φ = Ok f Φ
Ok (unless k) Φ = Unit {0}

abbrev pub NextIn : Stack → Terminal → Type 0
NextIn [] h = ⊥
NextIn (e ∷ st) h = After (e.1) (NextIn st) h

abbrev pub Good : Stack → Type 0
Good [] = Unit {0}
Good (e ∷ st) = Ok (e.1) (NextIn st) × Good st

Never-from : (f : Form) → never f ≡ true → Never f
Never-from f e None = not_true _ (and_fst (not (passes f None)) (list_all (λ h. not (passes f (Some h))) kinds) e)
Never-from f e (Some h) = not_true _ (every (λ h. not (passes f (Some h))) (and_snd (not (passes f None)) (list_all (λ h. not (passes f (Some h))) kinds) e) h)

After-from : (g : Form) (φ : Terminal → Bool) (Φ : Terminal → Type 0) → ((h : Terminal) → Φ h → φ h ≡ true) → (h : Terminal) → After g Φ h → after g φ h ≡ true
After-from g φ Φ below h (inl e) = or_first (first g h) (passes g (Some h) && φ h) e
After-from g φ Φ below h (inr (p, q)) = or_second (first g h) (passes g (Some h) && φ h) (and_both (passes g (Some h)) (φ h) p (below h q))

-- the test that computes suffices
pub Ok-from : (f : Form) (φ : Terminal → Bool) (Φ : Terminal → Type 0) → ((h : Terminal) → Φ h → φ h ≡ true) → ok f φ ≡ true → Ok f Φ
Ok-from empty φ Φ below e = tt
Ok-from (one k) φ Φ below e = tt
Ok-from (sub s) φ Φ below e = λ h q. implied (φ h) (follow s h) (every (λ j. not (φ j) || follow s j) e h) (below h q)
Ok-from (f ⨾ g) φ Φ below e = (Ok-from f (after g φ) (After g Φ) (After-from g φ Φ below) (and_fst _ (ok g φ) e), Ok-from g φ Φ below (and_snd (ok f (after g φ)) _ e))
Ok-from (f ∣ g) φ Φ below e =
    let r = and_snd (ok f φ) (ok g φ && (never f && apart (first f) (after g φ))) e in
    let s = and_snd (ok g φ) (never f && apart (first f) (after g φ)) r in
    let t = and_snd (never f) (apart (first f) (after g φ)) s in
    (Ok-from f φ Φ below (and_fst (ok f φ) _ e), Ok-from g φ Φ below (and_fst (ok g φ) _ r), Never-from f (and_fst (never f) _ s), λ h p q. excluded (first f h) (after g φ h) (every (λ j. not (first f j && after g φ j)) t h) p (After-from g φ Φ below h q))
Ok-from (many f) φ Φ below e =
    let s = and_snd (ok f (after (many f) φ)) (never f && apart (first f) φ) e in
    let t = and_snd (never f) (apart (first f) φ) s in
    (Ok-from f (after (many f) φ) (After (many f) Φ) (After-from (many f) φ Φ below) (and_fst (ok f (after (many f) φ)) _ e), Never-from f (and_fst (never f) _ s), λ h p q. excluded (first f h) (φ h) (every (λ j. not (first f j && φ j)) t h) p (below h q))
Ok-from (nested f) φ Φ below e = Ok-from f φ Φ below e
Ok-from (unless k) φ Φ below e = tt

pub rule-ok : (s : Symbol) (Φ : Terminal → Type 0) → ((h : Terminal) → Φ h → follow s h ≡ true) → Ok (rule s) Φ
rule-ok s Φ below = Ok-from (rule s) (follow s) Φ below (and_fst (ok (rule s) (follow s)) (never (rule s) && list_all (λ h. not (first (rule s) h) || starts s h) kinds) (rules_ok s))

pub rule-never : (s : Symbol) → Never (rule s)
rule-never s = Never-from (rule s) (and_fst _ (list_all (λ h. not (first (rule s) h) || starts s h) kinds) (and_snd (ok (rule s) (follow s)) (never (rule s) && list_all (λ h. not (first (rule s) h) || starts s h) kinds) (rules_ok s)))

pub rule-starts : (s : Symbol) (h : Terminal) → first (rule s) h ≡ true → starts s h ≡ true
rule-starts s h e = implied (first (rule s) h) (starts s h) (every (λ j. not (first (rule s) j) || starts s j) (and_snd (never (rule s)) _ (and_snd (ok (rule s) (follow s)) (never (rule s) && list_all (λ h. not (first (rule s) h) || starts s h) kinds) (rules_ok s))) h) e
