-- Kinds and values depend on the names in an expression alone.
use Rattle.std.proofs.Common.{◌≡◌, refl, sym, ap, ◌∙◌, ℕ, List, Option, Some, None, inl, inr, if◌then◌else◌}
use Rattle.std.specs.Option.{option_map}
use Rattle.sc_base.specs.declared.Place.{Place}
use Rattle.sc_syntax.specs.declared.NameKind.{NameKind}
use Rattle.sc_syntax.specs.declared.NameKind.TheVariants as k
use Rattle.sc_syntax.specs.declared.NumSort.{NumSort}
use Rattle.sc_syntax.specs.Alike.{PureNode, PureLinks, no_links, link}
use Rattle.sc_syntax.specs.NameKind as kind
use Rattle.sc_syntax.specs.NameKind.{Kinds, number_kind, wider, kind_of, kind_of_links, kind_of_operation, kind_of_unary}
use Rattle.sc_value.specs.declared.Value.{Value}
use Rattle.sc_value.specs.Numbers.{◌>>=◌, is_true, beside, unary}
use Rattle.sc_value.specs.Expressions.{Values, sort_of, kinds_of, step, value_of, value_of_links, value}
use Rattle.sc_value.specs.Agreement.{Uses, UsesInLinks, HasKindOfItsNames, HasValueOfItsNames, UsesNumbers, HasKindOfItsValues, HaveOneValue}

-- ---- kinds

mutual
  kind_agrees : (f g : Kinds) (n : PureNode) → ((name : List ℕ) → Uses n name → f name ≡ g name) → kind_of f n ≡ kind_of g n
  kind_agrees f g (PureNode.int n) h = refl
  kind_agrees f g (PureNode.decimal d) h = refl
  kind_agrees f g (PureNode.name t) h = ap number_kind (h t refl)
  kind_agrees f g (PureNode.index t p n) h = refl
  kind_agrees f g (PureNode.paren p n) h = kind_agrees f g n h
  kind_agrees f g (PureNode.unary op p n) h = λ i. kind.◌>>=◌ (kind_agrees f g n h i) (λ a. Some (kind_of_unary op a))
  kind_agrees f g (PureNode.chain p n links) h =
      λ i. kind.◌>>=◌ (kind_agrees f g n (λ name u. h name (inl u)) i) (λ a. kinds_agree f g links a (λ name u. h name (inr u)) i)
  kind_agrees f g (PureNode.pick p1 n1 p2 n2 p3 n3) h =
      λ i. kind.◌>>=◌ (kind_agrees f g n1 (λ name u. h name (inl u)) i) (λ test.
      kind.◌>>=◌ (kind_agrees f g n2 (λ name u. h name (inr (inl u))) i) (λ a.
      kind.◌>>=◌ (kind_agrees f g n3 (λ name u. h name (inr (inr u))) i) (λ b. Some (wider a b))))

  kinds_agree : (f g : Kinds) (links : PureLinks) (a : NumSort) → ((name : List ℕ) → UsesInLinks links name → f name ≡ g name)
      → kind_of_links f links a ≡ kind_of_links g links a
  kinds_agree f g no_links a h = refl
  kinds_agree f g (link op at p n rest) a h =
      λ i. kind.◌>>=◌ (kind_agrees f g n (λ name u. h name (inl u)) i) (λ b.
      kind.◌>>=◌ (kind_of_operation op a b) (λ c. kinds_agree f g rest c (λ name u. h name (inr u)) i))

pub kind_of_its_names : HasKindOfItsNames
kind_of_its_names f g n h = kind_agrees f g n h

-- ---- values

-- values that agree have kinds that agree
beside_agrees : (f g : Values) (n : PureNode) → ((name : List ℕ) → Uses n name → f name ≡ g name) → kind_of (kinds_of f) n ≡ kind_of (kinds_of g) n
beside_agrees f g n h = kind_agrees (kinds_of f) (kinds_of g) n (λ name u. ap (option_map (λ value. k.Number (sort_of value))) (h name u))

mutual
  value_agrees : (f g : Values) (at : Place) (n : PureNode) → ((name : List ℕ) → Uses n name → f name ≡ g name) → value_of f at n ≡ value_of g at n
  value_agrees f g at (PureNode.int n) h = refl
  value_agrees f g at (PureNode.decimal d) h = refl
  value_agrees f g at (PureNode.name t) h = λ i. value_of (λ name. h t refl i) at (PureNode.name t)
  value_agrees f g at (PureNode.index t p n) h = refl
  value_agrees f g at (PureNode.paren p n) h = value_agrees f g p n h
  value_agrees f g at (PureNode.unary op p n) h = λ i. value_agrees f g p n h i >>= unary op at
  value_agrees f g at (PureNode.chain p n links) h =
      λ i. value_agrees f g p n (λ name u. h name (inl u)) i >>= λ a. values_agree f g links a (λ name u. h name (inr u)) i
  value_agrees f g at (PureNode.pick p1 n1 p2 n2 p3 n3) h =
      λ i. value_agrees f g p1 n1 (λ name u. h name (inl u)) i >>= λ test.
      if is_true test
      then (value_agrees f g p2 n2 (λ name u. h name (inr (inl u))) i >>= beside (beside_agrees f g n3 (λ name u. h name (inr (inr u))) i) p2)
      else (value_agrees f g p3 n3 (λ name u. h name (inr (inr u))) i >>= beside (beside_agrees f g n2 (λ name u. h name (inr (inl u))) i) p3)

  values_agree : (f g : Values) (links : PureLinks) (a : Value) → ((name : List ℕ) → UsesInLinks links name → f name ≡ g name)
      → value_of_links f links a ≡ value_of_links g links a
  values_agree f g no_links a h = refl
  values_agree f g (link op at p n rest) a h =
      λ i. step op at a (value_agrees f g p n (λ name u. h name (inl u)) i) >>= λ b. values_agree f g rest b (λ name u. h name (inr u)) i

pub value_of_its_names : HasValueOfItsNames
value_of_its_names f g e h = value_agrees f g e.place e.node h

pub one_value : HaveOneValue
one_value values d e same = ap (value values) same

-- ---- what is well typed uses numbers alone

-- both parts of a kind that is there
record Both {A B : Type 0} (o : Option A) (next : A → Option B) (b : B) : Type 0 where
  here : A
  first : o ≡ Some here
  rest : next here ≡ Some b

both : {A B : Type 0} (o : Option A) (next : A → Option B) (b : B) → kind.◌>>=◌ o next ≡ Some b → Both o next b
both (Some a) next b e = record { here = a; first = refl; rest = e }
both None next b e = cc

abbrev IsNumber : Kinds → List ℕ → Type 0
IsNumber kinds name = (of : NumSort) × (kinds name ≡ Some (k.Number of))

number_there : (o : Option NameKind) (sort : NumSort) → number_kind o ≡ Some sort → (of : NumSort) × (o ≡ Some (k.Number of))
number_there None sort e = cc
number_there (Some (k.Number s)) sort e = (s, refl)
number_there (Some (k.One c)) sort e = cc
number_there (Some (k.Many c)) sort e = cc

-- the kinds of the three parts of `?:`
record Picked (kinds : Kinds) (n1 n2 n3 : PureNode) : Type 0 where
  test : NumSort
  test_is : kind_of kinds n1 ≡ Some test
  yes : NumSort
  yes_is : kind_of kinds n2 ≡ Some yes
  no : NumSort
  no_is : kind_of kinds n3 ≡ Some no

picked : (kinds : Kinds) (n1 n2 n3 : PureNode) (sort : NumSort)
    → kind.◌>>=◌ (kind_of kinds n1) (λ test. kind.◌>>=◌ (kind_of kinds n2) (λ a. kind.◌>>=◌ (kind_of kinds n3) (λ b. Some (wider a b)))) ≡ Some sort → Picked kinds n1 n2 n3
picked kinds n1 n2 n3 sort e =
    let test = both (kind_of kinds n1) (λ _. kind.◌>>=◌ (kind_of kinds n2) (λ a. kind.◌>>=◌ (kind_of kinds n3) (λ b. Some (wider a b)))) sort e in
    let yes = both (kind_of kinds n2) (λ a. kind.◌>>=◌ (kind_of kinds n3) (λ b. Some (wider a b))) sort test.rest in
    let no = both (kind_of kinds n3) (λ b. Some (wider yes.here b)) sort yes.rest in
    record { test = test.here; test_is = test.first; yes = yes.here; yes_is = yes.first; no = no.here; no_is = no.first }

mutual
  node_uses : (kinds : Kinds) (n : PureNode) (sort : NumSort) → kind_of kinds n ≡ Some sort → (name : List ℕ) → Uses n name → IsNumber kinds name
  node_uses kinds (PureNode.int n) sort e name u = absurd u
  node_uses kinds (PureNode.decimal d) sort e name u = absurd u
  node_uses kinds (PureNode.name t) sort e name u =
      let there = number_there (kinds t) sort e in (there.0, ap kinds (sym u) ∙ there.1)
  node_uses kinds (PureNode.index t p n) sort e name u = cc
  node_uses kinds (PureNode.paren p n) sort e name u = node_uses kinds n sort e name u
  node_uses kinds (PureNode.unary op p n) sort e name u =
      let part = both (kind_of kinds n) (λ a. Some (kind_of_unary op a)) sort e in node_uses kinds n part.here part.first name u
  node_uses kinds (PureNode.chain p n links) sort e name (inl u) =
      let part = both (kind_of kinds n) (kind_of_links kinds links) sort e in node_uses kinds n part.here part.first name u
  node_uses kinds (PureNode.chain p n links) sort e name (inr u) =
      let part = both (kind_of kinds n) (kind_of_links kinds links) sort e in links_use kinds links part.here sort part.rest name u
  node_uses kinds (PureNode.pick p1 n1 p2 n2 p3 n3) sort e name (inl u) = node_uses kinds n1 (picked kinds n1 n2 n3 sort e).test (picked kinds n1 n2 n3 sort e).test_is name u
  node_uses kinds (PureNode.pick p1 n1 p2 n2 p3 n3) sort e name (inr (inl u)) = node_uses kinds n2 (picked kinds n1 n2 n3 sort e).yes (picked kinds n1 n2 n3 sort e).yes_is name u
  node_uses kinds (PureNode.pick p1 n1 p2 n2 p3 n3) sort e name (inr (inr u)) = node_uses kinds n3 (picked kinds n1 n2 n3 sort e).no (picked kinds n1 n2 n3 sort e).no_is name u

  links_use : (kinds : Kinds) (links : PureLinks) (a sort : NumSort) → kind_of_links kinds links a ≡ Some sort → (name : List ℕ) → UsesInLinks links name → IsNumber kinds name
  links_use kinds no_links a sort e name u = absurd u
  links_use kinds (link op at p n rest) a sort e name (inl u) =
      let part = both (kind_of kinds n) (λ b. kind.◌>>=◌ (kind_of_operation op a b) (kind_of_links kinds rest)) sort e in
      node_uses kinds n part.here part.first name u
  links_use kinds (link op at p n rest) a sort e name (inr u) =
      let part = both (kind_of kinds n) (λ b. kind.◌>>=◌ (kind_of_operation op a b) (kind_of_links kinds rest)) sort e in
      let more = both (kind_of_operation op a part.here) (kind_of_links kinds rest) sort part.rest in
      links_use kinds rest more.here sort more.rest name u

pub uses_numbers : UsesNumbers
uses_numbers kinds n sort e name u = node_uses kinds n sort e name u

number_held : (o : Option Value) (sort : NumSort) → option_map sort_of o ≡ Some sort → option_map (λ value. k.Number (sort_of value)) o ≡ Some (k.Number sort)
number_held (Some x) sort e = ap (λ s. Some (k.Number s)) (same e)
  where
    same : {s t : NumSort} → Some s ≡ Some t → s ≡ t
    same e = cc
number_held None sort e = cc

pub kind_of_its_values : HasKindOfItsValues
kind_of_its_values kinds values n sort held e =
    kind_agrees (kinds_of values) kinds n (λ name u.
    let there = node_uses kinds n sort e name u in
    number_held (values name) there.0 (held name there.0 there.1) ∙ sym there.1)
    ∙ e
