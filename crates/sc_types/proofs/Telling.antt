-- The kind and the fault of an expression are those of its checks.
use Rattle.std.proofs.Common.{◌≡◌, Bool, true, false, if◌then◌else◌, List, [], ◌∷◌, ◌++◌, Option, Some, None, Result, Ok, Err, refl, sym, ap, ◌∙◌, subst}
use Rattle.std.specs.Prelude.{is_some, IfOk}
use Rattle.std.specs.Result.{result_err}
use Rattle.sc_base.specs.declared.Place.{Place}
use Rattle.sc_base.specs.declared.Class.TheVariants.{Q, C}
use Rattle.sc_syntax.specs.declared.NameKind.{NameKind}
use Rattle.sc_syntax.specs.declared.NameKind.TheVariants as kind
use Rattle.sc_syntax.specs.declared.NumSort.{NumSort}
use Rattle.sc_syntax.specs.declared.NumSort.TheVariants as num
use Rattle.sc_syntax.specs.declared.Expr.{Expr}
use Rattle.sc_syntax.specs.declared.Node.{Node, Int, Decimal, Name, Index', Paren', Unary', Chain', Chain, Pick', Row_of-Link, end_of-Link, more_of-Link, items-the_row-Link}
use Rattle.sc_syntax.specs.declared.Link.{Link}
use Rattle.sc_syntax.proofs.Rows.{over_links, links_of}
use Rattle.std.specs.declared.boxed.Box.{Box}
use Rattle.std.specs.declared.vec.Vec.{Vec}
use Rattle.std.specs.declared.alloc.Global.{Global}
use Rattle.sc_syntax.specs.Alike.{pure_node, pure_links, pure_expr}
use Rattle.sc_syntax.specs.NameKind.{Kinds, wider, number_kind, kind_of_operation, kind_of_unary, kind_of_node, kind_of_row, kind_of_expr, ◌>>=◌ as ◌=>>◌}
use Rattle.sc_types.specs.declared.fault.TypeFault.{TypeFault}
use Rattle.sc_types.specs.declared.fault.TypeFault.TheVariants.{WrongKind}
use Rattle.sc_types.specs.Checks.{Check, check, first_fault}
use Rattle.sc_types.specs.Numbers.{is_number, is_indexed, number_node, number_links, number_checks, is_int, int_checks}
use Rattle.sc_types.specs.Sorts.{◌>>=◌, sort_of_name, fault_of_indexed, or_wrong, or_not_int, sort_of_node, sort_of_row, sort_of_links, sort_of, int_of}

-- the first of two faults, where there is one
abbrev pub or_else : Option TypeFault → Option TypeFault → Option TypeFault
or_else None b = b
or_else (Some f) b = Some f

append_by : (b : Bool) (f : TypeFault) (x y z : Option TypeFault) → x ≡ or_else y z → (if b then x else Some f) ≡ or_else (if b then y else Some f) z
append_by true f x y z h = h
append_by false f x y z h = refl

pub fault_append : (xs ys : List Check) → first_fault (xs ++ ys) ≡ or_else (first_fault xs) (first_fault ys)
fault_append [] ys = refl
fault_append (c ∷ xs) ys = append_by c.passes c.fault (first_fault (xs ++ ys)) (first_fault xs) (first_fault ys) (fault_append xs ys)

-- a fault of the first list is that of both, and where the first passes it is that of the second
pub first_fails : (cs ds : List Check) (f : TypeFault) → first_fault cs ≡ Some f → first_fault (cs ++ ds) ≡ Some f
first_fails cs ds f e = fault_append cs ds ∙ ap (λ (x : Option TypeFault). or_else x (first_fault ds)) e

pub first_passes : (cs ds : List Check) → first_fault cs ≡ None → first_fault (cs ++ ds) ≡ first_fault ds
first_passes cs ds e = fault_append cs ds ∙ ap (λ (x : Option TypeFault). or_else x (first_fault ds)) e

-- the answer tells the fault of the checks, or the kind
abbrev pub Tells : Result NumSort TypeFault → List Check → Option NumSort → Type 0
Tells (Ok s) cs k = (first_fault cs ≡ None) × (k ≡ Some s)
Tells (Err f) cs k = first_fault cs ≡ Some f

-- more checks that may depend on the kind so far
tells_more : (r : Result NumSort TypeFault) (cs : List Check) (k : Option NumSort) (go : NumSort → Result NumSort TypeFault) (ds : Option NumSort → List Check) (next : NumSort → Option NumSort)
    → Tells r cs k → ((a : NumSort) → Tells (go a) (ds (Some a)) (next a)) → Tells (r >>= go) (cs ++ ds k) (k =>> next)
tells_more (Ok a) cs k go ds next h g =
    subst (λ (j : Option NumSort). Tells (go a) (cs ++ ds j) (j =>> next)) (sym h.1)
    (tells_after (go a) cs (ds (Some a)) (next a) h.0 (g a))
  where
    tells_after : (r : Result NumSort TypeFault) (cs ds : List Check) (k : Option NumSort) → first_fault cs ≡ None → Tells r ds k → Tells r (cs ++ ds) k
    tells_after (Ok s) cs ds k n t = (fault_append cs ds ∙ ap (λ (x : Option TypeFault). or_else x (first_fault ds)) n ∙ t.0, t.1)
    tells_after (Err f) cs ds k n t = fault_append cs ds ∙ ap (λ (x : Option TypeFault). or_else x (first_fault ds)) n ∙ t
tells_more (Err f) cs k go ds next h g = fault_append cs (ds k) ∙ ap (λ (x : Option TypeFault). or_else x (first_fault (ds k))) h

tells_name : (at : Place) (k : Option NameKind) → Tells (sort_of_name at k) (is_number at k ∷ []) (number_kind k)
tells_name at None = refl
tells_name at (Some (kind.Number s)) = (refl, refl)
tells_name at (Some (kind.One C)) = refl
tells_name at (Some (kind.Many C)) = refl
tells_name at (Some (kind.One Q)) = refl
tells_name at (Some (kind.Many Q)) = refl

tells_indexed : (at : Place) (k : Option NameKind) → first_fault (is_indexed at k ∷ []) ≡ Some (fault_of_indexed at k)
tells_indexed at None = refl
tells_indexed at (Some (kind.Number s)) = refl
tells_indexed at (Some (kind.One C)) = refl
tells_indexed at (Some (kind.Many C)) = refl
tells_indexed at (Some (kind.One Q)) = refl
tells_indexed at (Some (kind.Many Q)) = refl

tells_skip : (r : Result NumSort TypeFault) (f : TypeFault) (cs : List Check) (k : Option NumSort) → Tells r cs k → Tells r (check true f ∷ cs) k
tells_skip (Ok s) f cs k h = h
tells_skip (Err e) f cs k h = h

-- the operator, and then the rest
tells_operated : (at : Place) (k : Option NumSort) (rest : List Check) (go : NumSort → Result NumSort TypeFault) (next : NumSort → Option NumSort)
    → ((a : NumSort) → k ≡ Some a → Tells (go a) rest (next a)) → Tells (or_wrong at k >>= go) (check (is_some k) (WrongKind at) ∷ rest) (k =>> next)
tells_operated at None rest go next h = refl
tells_operated at (Some a) rest go next h = tells_skip (go a) (WrongKind at) rest (next a) (h a refl)

tells_map : (r : Result NumSort TypeFault) (cs : List Check) (k : Option NumSort) (f : NumSort → NumSort) → Tells r cs k → Tells (r >>= λ a. Ok (f a)) cs (k =>> λ a. Some (f a))
tells_map (Ok a) cs k f h = (h.0, ap (λ (j : Option NumSort). j =>> λ x. Some (f x)) h.1)
tells_map (Err e) cs k f h = h

mutual
  pub tells_node : (ks : Kinds) (at : Place) (n : Node) → Tells (sort_of_node ks at n) (number_node ks at (pure_node n)) (kind_of_node ks n)
  tells_node ks at (Int n) = (refl, refl)
  tells_node ks at (Decimal d) = (refl, refl)
  tells_node ks at (Name t) = tells_name at (ks t)
  tells_node ks at (Index' t b p n) = tells_indexed at (ks t)
  tells_node ks at (Paren' b p n) = tells_node ks p n
  tells_node ks at (Unary' o b p n) = tells_map (sort_of_node ks p n) (number_node ks p (pure_node n)) (kind_of_node ks n) (kind_of_unary o) (tells_node ks p n)
  tells_node ks at (Chain' b p n shape row) =
      tells_more (sort_of_node ks p n) (number_node ks p (pure_node n)) (kind_of_node ks n) (sort_of_row ks row) (λ k. number_links ks k (pure_links row)) (kind_of_row ks row) (tells_node ks p n) (λ a. tells_row ks row a)
  tells_node ks at (Pick' b1 p1 n1 b2 p2 n2 b3 p3 n3) =
      tells_more (sort_of_node ks p1 n1) (number_node ks p1 (pure_node n1)) (kind_of_node ks n1)
      (λ test. sort_of_node ks p2 n2 >>= λ a. sort_of_node ks p3 n3 >>= λ b. Ok (wider a b)) (λ k. number_node ks p2 (pure_node n2) ++ number_node ks p3 (pure_node n3))
      (λ test. kind_of_node ks n2 =>> λ a. kind_of_node ks n3 =>> λ b. Some (wider a b)) (tells_node ks p1 n1)
      (λ test. tells_more (sort_of_node ks p2 n2) (number_node ks p2 (pure_node n2)) (kind_of_node ks n2)
      (λ a. sort_of_node ks p3 n3 >>= λ b. Ok (wider a b)) (λ k. number_node ks p3 (pure_node n3)) (λ a. kind_of_node ks n3 =>> λ b. Some (wider a b)) (tells_node ks p2 n2)
      (λ a. tells_map (sort_of_node ks p3 n3) (number_node ks p3 (pure_node n3)) (kind_of_node ks n3) (wider a) (tells_node ks p3 n3)))

  tells_row : {m : _} (ks : Kinds) (row : Row_of-Link m) (a : NumSort) → Tells (sort_of_row ks row a) (number_links ks (Some a) (pure_links row)) (kind_of_row ks row a)
  tells_row ks end_of-Link a = (refl, refl)
  tells_row ks (more_of-Link o at p n rest) a =
      tells_more (sort_of_node ks p n) (number_node ks p (pure_node n)) (kind_of_node ks n)
      (λ b. or_wrong at (kind_of_operation o a b) >>= sort_of_row ks rest)
      (λ k. check (is_some (k =>> kind_of_operation o a)) (WrongKind at) ∷ number_links ks (k =>> kind_of_operation o a) (pure_links rest))
      (λ b. kind_of_operation o a b =>> kind_of_row ks rest) (tells_node ks p n)
      (λ b. tells_operated at (kind_of_operation o a b) (number_links ks (kind_of_operation o a b) (pure_links rest)) (sort_of_row ks rest) (kind_of_row ks rest)
      (λ s e. subst (λ (k : Option NumSort). Tells (sort_of_row ks rest s) (number_links ks k (pure_links rest)) (kind_of_row ks rest s)) (sym e) (tells_row ks rest s)))

tells_int_by : (ks : Kinds) (e : Expr) (r : Result NumSort TypeFault) → Tells r (number_checks ks (pure_expr e)) (kind_of_expr ks e) → Tells (r >>= or_not_int e.place) (int_checks ks (pure_expr e)) (kind_of_expr ks e)
tells_int_by ks e (Ok num.Int) h = (
  fault_append (number_checks ks (pure_expr e)) (check (is_int (kind_of_expr ks e)) (WrongKind e.place) ∷ [])
      ∙ ap (λ (x : Option TypeFault). or_else x (first_fault (check (is_int (kind_of_expr ks e)) (WrongKind e.place) ∷ []))) h.0
      ∙ ap (λ (k : Option NumSort). first_fault (check (is_int k) (WrongKind e.place) ∷ [])) h.1,
  h.1,
)
tells_int_by ks e (Ok num.Double) h =
    fault_append (number_checks ks (pure_expr e)) (check (is_int (kind_of_expr ks e)) (WrongKind e.place) ∷ [])
    ∙ ap (λ (x : Option TypeFault). or_else x (first_fault (check (is_int (kind_of_expr ks e)) (WrongKind e.place) ∷ []))) h.0
    ∙ ap (λ (k : Option NumSort). first_fault (check (is_int k) (WrongKind e.place) ∷ [])) h.1
tells_int_by ks e (Err f) h =
    fault_append (number_checks ks (pure_expr e)) (check (is_int (kind_of_expr ks e)) (WrongKind e.place) ∷ [])
    ∙ ap (λ (x : Option TypeFault). or_else x (first_fault (check (is_int (kind_of_expr ks e)) (WrongKind e.place) ∷ []))) h

pub tells_int : (ks : Kinds) (e : Expr) → Tells (int_of ks e) (int_checks ks (pure_expr e)) (kind_of_expr ks e)
tells_int ks e = tells_int_by ks e (sort_of ks e) (tells_node ks e.place e.node)

-- ---- chains as lists

-- what goes on alike from each answer
pub bind_same : {A B : Type 0} (r : Result A TypeFault) (f g : A → Result B TypeFault) → ((a : A) → f a ≡ g a) → (r >>= f) ≡ (r >>= g)
bind_same (Ok a) f g h = h a
bind_same (Err e) f g h = refl

sort_of_row_links : {m : _} (ks : Kinds) (row : Row_of-Link m) (a : NumSort) → sort_of_row ks row a ≡ sort_of_links ks (items-the_row-Link m row) a
sort_of_row_links ks end_of-Link a = refl
sort_of_row_links ks (more_of-Link o at p n rest) a =
    bind_same (sort_of_node ks p n) (λ b. or_wrong at (kind_of_operation o a b) >>= sort_of_row ks rest) (λ b. or_wrong at (kind_of_operation o a b) >>= sort_of_links ks (items-the_row-Link _ rest))
    (λ b. bind_same (or_wrong at (kind_of_operation o a b)) (sort_of_row ks rest) (sort_of_links ks (items-the_row-Link _ rest)) (λ s. sort_of_row_links ks rest s))

pub sort_of_chain : (ks : Kinds) (at : Place) (first : Box Expr Global) (links : Vec Link Global) → sort_of_node ks at (Chain first links) ≡ (sort_of ks first.value >>= sort_of_links ks links.items)
sort_of_chain ks at first links =
    bind_same (sort_of ks first.value) (sort_of_row ks (links_of (Chain first links)).1) (sort_of_links ks links.items)
    (λ a. over_links (λ m row. sort_of_row ks row a) (λ ls. sort_of_links ks ls a) (λ m row. sort_of_row_links ks row a) first links)

-- ---- the two clauses of a call

pub kind_told : (r : Result NumSort TypeFault) (cs : List Check) (k : Option NumSort) → Tells r cs k → IfOk r (λ s. k ≡ Some s)
kind_told (Ok s) cs k h = h.1
kind_told (Err f) cs k h = tt

pub fault_told : (r : Result NumSort TypeFault) (cs : List Check) (k : Option NumSort) → Tells r cs k → result_err r ≡ first_fault cs
fault_told (Ok s) cs k h = sym h.0
fault_told (Err f) cs k h = sym h
