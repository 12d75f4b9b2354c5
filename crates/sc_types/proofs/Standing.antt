-- The stack of scopes stands for the declarations before a place: what a declaration, an entered scope and a left scope do to it.
use Rattle.std.proofs.Common.{◌≡◌, ℕ, Bool, true, false, cond, not, ◌&&◌, ◌||◌, List, [], ◌∷◌, ◌++◌, drop, Option, Some, None, Result, Ok, Err, refl, sym, ap, ◌∙◌, arith}
use Rattle.std.specs.Prelude.{find, option_map, is_some}
use mathlib.Core.List.{reverse}
use Rattle.std.specs.List.{list_any}
use Rattle.std.specs.Option.{option_or}
use Rattle.std.specs.Cmp.Lexicographic.{same_text}
use Rattle.std.proofs.lemmas.List.{reverse-append}
use Rattle.std.proofs.lemmas.List.Folds.{list_any-append}
use Rattle.std.proofs.Math.Bool.{or-false, or-true}
use Rattle.sc_base.specs.Texts.{same}
use Rattle.sc_syntax.specs.declared.NameKind.{NameKind}
use Rattle.sc_syntax.specs.declared.Name.{Name}
use Rattle.sc_types.specs.declared.fault.TypeFault.{TypeFault}
use Rattle.sc_types.specs.declared.fault.TypeFault.TheVariants.{Redefined}
use Rattle.sc_types.specs.Checks.{check, first_fault}
use Rattle.sc_types.specs.Declarations.{Declaration, ScopePath, is_prefix, is_seen, is_new, declared_kind, or_pi, kinds}
use Rattle.sc_types.specs.Scopes.{Known, Stack, Stands, known, innermost, kind_here, kind_in, kinds_in, declared, over}
use Rattle.sc_types.proofs.Ways.{same_refl, prefix_refl}

-- a declaration in the scope of the place
abbrev pub declaration : List ℕ → NameKind → ScopePath → Declaration
declaration name kind place = record { name = name; kind = kind; scope = place }

-- the names mean the same for all that needs to know them
pub same_declared : (stack : Stack) (before : List Declaration) (place : ScopePath) → Stands stack before place → kind_in stack ≡ declared_kind before place
same_declared stack before place h = λ j name. h.seen name j

pub same_kinds : (stack : Stack) (before : List Declaration) (place : ScopePath) → Stands stack before place → kinds_in stack ≡ kinds before place
same_kinds stack before place h = λ j name. or_pi name (h.seen name j)

-- ---- one declaration more

seen_more : (before : List Declaration) (d : Declaration) (place : ScopePath) (name : List ℕ)
    → declared_kind (before ++ d ∷ []) place name ≡ option_map (λ (e : Declaration). e.kind) (cond (is_seen place name d) (Some d) (find (is_seen place name) (reverse before)))
seen_more before d place name = ap (λ ds. option_map (λ (e : Declaration). e.kind) (find (is_seen place name) ds)) (reverse-append before (d ∷ []))

here_more : (here : List Known) (name : List ℕ) (kind : NameKind) (q : List ℕ) → kind_here (here ++ known name kind ∷ []) q ≡ option_or (kind_here here q) (cond (same q name) (Some kind) None)
here_more [] name kind q = refl
here_more (k ∷ ks) name kind q =
    elim (same q k.name) as (λ b. cond b (Some k.kind) (kind_here (ks ++ known name kind ∷ []) q) ≡ option_or (cond b (Some k.kind) (kind_here ks q)) (cond (same q name) (Some kind) None)) [
      | true ↦ refl
      | false ↦ here_more ks name kind q
    ]

split_stack : (stack : Stack) (q : List ℕ) → kind_in stack q ≡ option_or (kind_here (innermost stack) q) (kind_in (drop 1 stack) q)
split_stack [] q = refl
split_stack (here ∷ outer) q = refl

or_none : (a : Option NameKind) → option_or a None ≡ a
or_none None = refl
or_none (Some x) = refl

or_some : (a : Option NameKind) (x : NameKind) → is_some (option_or a (Some x)) ≡ true
or_some None x = refl
or_some (Some y) x = refl

-- the declared name is in no scope but the innermost; every other name stays
seen_declared : (stack : Stack) (before : List Declaration) (place : ScopePath) (name : List ℕ) (kind : NameKind) → Stands stack before place → kind_here (innermost stack) name ≡ None
    → (q : List ℕ) → kind_in ((innermost stack ++ known name kind ∷ []) ∷ drop 1 stack) q ≡ declared_kind (before ++ declaration name kind place ∷ []) place q
seen_declared stack before place name kind h none q =
    ap (λ a. option_or a (kind_in (drop 1 stack) q)) (here_more (innermost stack) name kind q)
    ∙ by (same q name) refl
    ∙ sym (seen_more before (declaration name kind place) place q)
  where
    rest : Option Declaration
    rest = find (is_seen place q) (reverse before)

    by : (b : Bool) → same q name ≡ b
        → option_or (option_or (kind_here (innermost stack) q) (cond (same q name) (Some kind) None)) (kind_in (drop 1 stack) q)
        ≡ option_map (λ (e : Declaration). e.kind) (cond (same q name && is_prefix place place) (Some (declaration name kind place)) (find (is_seen place q) (reverse before)))
    by true t =
        let absent : kind_here (innermost stack) q ≡ None = ap (kind_here (innermost stack)) (same_text q name (sym t)) ∙ none in
        ap (λ a. option_or (option_or a (cond (same q name) (Some kind) None)) (kind_in (drop 1 stack) q)) absent
        ∙ ap (λ b. option_or (option_or None (cond b (Some kind) None)) (kind_in (drop 1 stack) q)) t
        ∙ sym (ap (λ b. option_map (λ (e : Declaration). e.kind) (cond (b && is_prefix place place) (Some (declaration name kind place)) (find (is_seen place q) (reverse before)))) t
        ∙ ap (λ b. option_map (λ (e : Declaration). e.kind) (cond b (Some (declaration name kind place)) (find (is_seen place q) (reverse before)))) (prefix_refl place))
    by false t =
        ap (λ b. option_or (option_or (kind_here (innermost stack) q) (cond b (Some kind) None)) (kind_in (drop 1 stack) q)) t
        ∙ ap (λ a. option_or a (kind_in (drop 1 stack) q)) (or_none (kind_here (innermost stack) q))
        ∙ sym (split_stack stack q)
        ∙ h.seen q
        ∙ sym (ap (λ b. option_map (λ (e : Declaration). e.kind) (cond (b && is_prefix place place) (Some (declaration name kind place)) (find (is_seen place q) (reverse before)))) t)

own_declared : (stack : Stack) (before : List Declaration) (place : ScopePath) (name : List ℕ) (kind : NameKind) → Stands stack before place
    → (q : List ℕ) → is_some (kind_here (innermost stack ++ known name kind ∷ []) q) ≡ list_any (λ d. same q d.name && same place d.scope) (before ++ declaration name kind place ∷ [])
own_declared stack before place name kind h q =
    ap is_some (here_more (innermost stack) name kind q)
    ∙ by (same q name) refl
    ∙ sym (list_any-append (λ d. same q d.name && same place d.scope) before (declaration name kind place ∷ []))
  where
    by : (b : Bool) → same q name ≡ b
        → is_some (option_or (kind_here (innermost stack) q) (cond (same q name) (Some kind) None))
        ≡ (list_any (λ d. same q d.name && same place d.scope) before || ((same q name && same place place) || false))
    by true t =
        ap (λ b. is_some (option_or (kind_here (innermost stack) q) (cond b (Some kind) None))) t
        ∙ or_some (kind_here (innermost stack) q) kind
        ∙ sym (ap (λ b. list_any (λ d. same q d.name && same place d.scope) before || ((b && same place place) || false)) t
        ∙ ap (λ b. list_any (λ d. same q d.name && same place d.scope) before || (b || false)) (same_refl place)
        ∙ or-true (list_any (λ d. same q d.name && same place d.scope) before))
    by false t =
        ap (λ b. is_some (option_or (kind_here (innermost stack) q) (cond b (Some kind) None))) t
        ∙ ap is_some (or_none (kind_here (innermost stack) q))
        ∙ h.own q
        ∙ sym (ap (λ b. list_any (λ d. same q d.name && same place d.scope) before || ((b && same place place) || false)) t
        ∙ or-false (list_any (λ d. same q d.name && same place d.scope) before))

-- what the answer of a declaration says
pub record Declares (after stack : Stack) (before : List Declaration) (place : ScopePath) (name : Name) (kind : NameKind) : Type 0 where
  pub fine : first_fault (is_new before place name ∷ []) ≡ None
  pub stands : Stands after (before ++ declaration name.text kind place ∷ []) place
  pub outer : drop 1 after ≡ drop 1 stack

abbrev pub TellsDeclared : Result Stack TypeFault → Stack → List Declaration → ScopePath → Name → NameKind → Type 0
TellsDeclared (Ok after) stack before place name kind = Declares after stack before place name kind
TellsDeclared (Err f) stack before place name kind = first_fault (is_new before place name ∷ []) ≡ Some f

-- a name is declared at the place
pub declare : (stack : Stack) (before : List Declaration) (place : ScopePath) (name : Name) (kind : NameKind) → Stands stack before place
    → TellsDeclared (declared stack name kind) stack before place name kind
declare stack before place name kind h = by (kind_here (innermost stack) name.text) refl
  where
    clash : Bool → Option TypeFault
    clash b = first_fault (check (not b) (Redefined name.place) ∷ [])

    by : (k : Option NameKind) → kind_here (innermost stack) name.text ≡ k
        → TellsDeclared (over (drop 1 stack) (cond (is_some k) (Err (Redefined name.place)) (Ok (innermost stack ++ known name.text kind ∷ [])))) stack before place name kind
    by None e = record {
      fine = ap (λ b. first_fault (check (not b) (Redefined name.place) ∷ [])) (sym (h.own name.text) ∙ ap is_some e);
      stands = record {
        is_open = omega arith;
        seen = seen_declared stack before place name.text kind h e;
        own = own_declared stack before place name.text kind h;
      };
      outer = refl;
    }
    by (Some k) e = ap (λ b. first_fault (check (not b) (Redefined name.place) ∷ [])) (sym (h.own name.text) ∙ ap is_some e)

-- nothing is declared yet
pub begins : (place : ScopePath) → Stands ([] ∷ []) [] place
begins place = record { is_open = omega arith; seen = λ name. refl; own = λ name. refl }
