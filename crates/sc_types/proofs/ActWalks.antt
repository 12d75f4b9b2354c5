-- The walk over a statement tells the model's walk, by cases on the tree.
use Rattle.std.proofs.Common.{◌≡◌, ℕ, suc, List, [], ◌∷◌, ◌++◌, map, Some, None, Result, Ok, Err, refl, sym, ap, subst, ◌∙◌, append_assoc, append-nil, arith}
use Rattle.std.specs.Prelude.{option_map}
use Rattle.sc_syntax.specs.declared.Stmt.{Stmt}
use Rattle.sc_syntax.specs.declared.Act.{Act, Wires, Numbers, Set, Measure, Call, If', While', For', Block', Empty, Held-Act-If-2, None', Some', Row_of-Stmt, end_of-Stmt, more_of-Stmt}
use Rattle.sc_syntax.specs.Alike.{PurePart, pure_expr, pure_decl, pure_init, pure_operand, pure_act, pure_held, pure_row, pure_stmt}
use Rattle.sc_types.specs.declared.fault.TypeFault.{TypeFault}
use Rattle.sc_types.specs.Checks.{first_fault}
use Rattle.sc_types.specs.Declarations.{Declaration, ScopePath, is_prefix, kinds}
use Rattle.sc_types.specs.Numbers.{number_checks}
use Rattle.sc_types.specs.Scopes.{Stack, Stands, StandsAtBody, kinds_in}
use Rattle.sc_types.specs.Sorts.{◌>>=◌}
use Rattle.sc_types.specs.Statements.{Walk, only, in_turn, optional, walk_decls, walk_inits, set_checks, measure_checks, call_checks, walk_act, walk_held, walk_row}
use Rattle.sc_types.specs.Sources.{walk_stmts}
use Rattle.sc_types.specs.Walking.{unless, wires_on, inits_on, inside, act_on, held_on, else_on, row_on, stmts_on}
use Rattle.sc_types.proofs.Nesting.{every_append, every_weaker, AreBeside, IsBeside, IsInside, IsMade, HasRoom, AreAlike, IsAlike, sees, step_in, enter, alike_beside, alike_other, made_here, made_within, made_inside, room_more, room_within, beside_longer, beside_later, inside_shorter}
use Rattle.sc_types.proofs.Walks.{Tells, IsHere, nothing, turns, weaker, own_scope, scoped, checks_known, only_known, only_declared, wires_told, inits_told}

-- what is inside a way is inside a shorter one, and in the scope of the statement
shorter : (way more : ScopePath) (d : Declaration) → IsInside (way ++ more) d → IsInside way d
shorter way more d h = (inside_shorter way more (d ∷ []) (h, tt)).0

made : (place : ScopePath) (i : ℕ) (d : Declaration) → IsInside (place ++ i ∷ []) d → IsMade place i d
made place i d h = (made_within place i (d ∷ []) (h, tt)).0

kept : (place : ScopePath) (i : ℕ) (d : Declaration) → IsMade place i d → IsInside place d
kept place i d h = (made_inside place i (d ∷ []) (h, tt)).0

-- a body in the scope of a part of the statement
nested : (f : Stack → Result Stack TypeFault) (w : ScopePath → Walk) (stack : Stack) (before : List Declaration) (place : ScopePath) (i k : ℕ)
    → Stands stack before place → AreAlike place ((place ++ i ∷ []) ++ k ∷ []) before → AreBeside ((place ++ i ∷ []) ++ k ∷ []) before
    → ((h : Stands ([] ∷ stack) before ((place ++ i ∷ []) ++ k ∷ [])) → AreBeside (((place ++ i ∷ []) ++ k ∷ []) ++ 0 ∷ []) before
    → Tells (IsMade ((place ++ i ∷ []) ++ k ∷ []) 0) (f ([] ∷ stack)) ([] ∷ stack) before ((place ++ i ∷ []) ++ k ∷ []) (w (((place ++ i ∷ []) ++ k ∷ []) ++ 0 ∷ [])))
    → Tells (IsInside ((place ++ i ∷ []) ++ k ∷ [])) (inside f stack) stack before place (w ((place ++ i ∷ []) ++ k ∷ 0 ∷ []))
nested f w stack before place i k h sight free t =
    subst (λ (way : ScopePath). Tells (IsInside ((place ++ i ∷ []) ++ k ∷ [])) (inside f stack) stack before place (w way)) (append_assoc (place ++ i ∷ []) (k ∷ []) (0 ∷ []))
    (scoped f stack before place ((place ++ i ∷ []) ++ k ∷ []) i (k ∷ []) (w (((place ++ i ∷ []) ++ k ∷ []) ++ 0 ∷ [])) refl h sight free t)

-- the same where the place is the scope of the statement
nested_here : (f : Stack → Result Stack TypeFault) (w : ScopePath → Walk) (stack : Stack) (before : List Declaration) (place : ScopePath) (k : ℕ)
    → Stands stack before place → AreBeside (place ++ k ∷ []) before
    → ((h : Stands ([] ∷ stack) before (place ++ k ∷ [])) → AreBeside ((place ++ k ∷ []) ++ 0 ∷ []) before
    → Tells (IsMade (place ++ k ∷ []) 0) (f ([] ∷ stack)) ([] ∷ stack) before (place ++ k ∷ []) (w ((place ++ k ∷ []) ++ 0 ∷ [])))
    → Tells (IsInside (place ++ k ∷ [])) (inside f stack) stack before place (w (place ++ k ∷ 0 ∷ []))
nested_here f w stack before place k h free t =
    let is : place ++ k ∷ [] ≡ (place ++ k ∷ []) ++ [] = sym (append-nil (place ++ k ∷ [])) in
    subst (λ (way : ScopePath). Tells (IsInside (place ++ k ∷ [])) (inside f stack) stack before place (w way)) (append_assoc place (k ∷ []) (0 ∷ []))
    (scoped f stack before place (place ++ k ∷ []) k [] (w ((place ++ k ∷ []) ++ 0 ∷ [])) is h
    (subst (λ (inner : ScopePath). AreAlike place inner before) (sym is) (alike_beside place k [] before free)) free t)

-- the statement has the scope of its number, and begins there without names
begun : (stack : Stack) (before : List Declaration) (place : ScopePath) (i : ℕ) → Stands stack before place → AreBeside (place ++ i ∷ []) before → Stands ([] ∷ stack) before (place ++ i ∷ [])
begun stack before place i h free =
    enter stack before (place ++ i ∷ []) free (step_in stack before place (place ++ i ∷ [])
    (subst (λ (inner : ScopePath). AreAlike place inner before) (append-nil (place ++ i ∷ [])) (alike_beside place i [] before free)) (sees stack before place h))

mutual
  pub act_told : (parts : List PurePart) (act : Act) (stack : Stack) (before : List Declaration) (place : ScopePath) (i : ℕ) → Stands stack before place → AreBeside (place ++ i ∷ []) before
      → Tells (IsMade place i) (act_on parts stack act) stack before place (walk_act parts before place (place ++ i ∷ []) (pure_act act))
  act_told parts (Wires c ds) stack before place i h free =
      weaker (IsHere place) (IsMade place i) (made_here place i) (wires_on c stack ds) stack before place (walk_decls before place c (map pure_decl ds)) (wires_told c ds stack before place h)
  act_told parts (Numbers s ds) stack before place i h free =
      weaker (IsHere place) (IsMade place i) (made_here place i) (inits_on s stack ds) stack before place (walk_inits before place s (map pure_init ds)) (inits_told s ds stack before place h)
  act_told parts (Set s) stack before place i h free = only_declared (IsMade place i) (λ ks. set_checks ks s.name s.op s.place (option_map pure_expr s.value)) stack before place h
  act_told parts (Measure m) stack before place i h free = only_known (IsMade place i) (λ ks. measure_checks ks (pure_operand m.into) (pure_operand m.from)) stack before place h
  act_told parts (Call c) stack before place i h free = only_known (IsMade place i) (λ ks. call_checks parts ks c.callee c.place (map pure_expr c.args)) stack before place h
  act_told parts (If' e b p act other) stack before place i h free =
      let own : ScopePath = place ++ i ∷ [] in
      checks_known (IsMade place i) (λ ks. number_checks ks (pure_expr e)) (inside (λ inner. act_on parts inner act) stack >>= λ after. else_on parts after other) stack before place
      (λ known. in_turn known (walk_act parts known (own ++ 0 ∷ []) (own ++ 0 ∷ 0 ∷ []) (pure_act act)) (λ known. walk_held parts known (own ++ 1 ∷ []) (own ++ 1 ∷ 0 ∷ []) (pure_held other))) h
      (turns (IsInside (own ++ 0 ∷ [])) (IsInside (own ++ 1 ∷ [])) (IsMade place i) (inside (λ inner. act_on parts inner act) stack) (λ after. else_on parts after other) stack before place
      (walk_act parts before (own ++ 0 ∷ []) (own ++ 0 ∷ 0 ∷ []) (pure_act act)) (λ known. walk_held parts known (own ++ 1 ∷ []) (own ++ 1 ∷ 0 ∷ []) (pure_held other))
      (λ d m. made place i d (shorter own (0 ∷ []) d m)) (λ d m. made place i d (shorter own (1 ∷ []) d m))
      (nested (λ inner. act_on parts inner act) (λ way. walk_act parts before (own ++ 0 ∷ []) way (pure_act act)) stack before place i 0 h
      (alike_beside place i (0 ∷ []) before free) (beside_longer own (0 ∷ []) before free) (λ k room. act_told parts act ([] ∷ stack) before (own ++ 0 ∷ []) 0 k room))
      (λ after w. let ds : List Declaration = (walk_act parts before (own ++ 0 ∷ []) (own ++ 0 ∷ 0 ∷ []) (pure_act act)).declares in
      else_told parts other after (before ++ ds) place i w.stands
      (every_append (IsAlike place (own ++ 1 ∷ [])) before ds (alike_beside place i (1 ∷ []) before free) (alike_other place i 0 1 ds (omega arith) w.each))
      (every_append (IsBeside (own ++ 1 ∷ [])) before ds (beside_longer own (1 ∷ []) before free) (beside_later own 0 1 ds (omega arith) w.each))))
  act_told parts (While' e b p act) stack before place i h free =
      checks_known (IsMade place i) (λ ks. number_checks ks (pure_expr e)) (inside (λ inner. act_on parts inner act) stack) stack before place
      (λ known. walk_act parts known ((place ++ i ∷ []) ++ 0 ∷ []) ((place ++ i ∷ []) ++ 0 ∷ 0 ∷ []) (pure_act act)) h
      (weaker (IsInside ((place ++ i ∷ []) ++ 0 ∷ [])) (IsMade place i) (λ d m. made place i d (shorter (place ++ i ∷ []) (0 ∷ []) d m))
      (inside (λ inner. act_on parts inner act) stack) stack before place (walk_act parts before ((place ++ i ∷ []) ++ 0 ∷ []) ((place ++ i ∷ []) ++ 0 ∷ 0 ∷ []) (pure_act act))
      (nested (λ inner. act_on parts inner act) (λ way. walk_act parts before ((place ++ i ∷ []) ++ 0 ∷ []) way (pure_act act)) stack before place i 0 h
      (alike_beside place i (0 ∷ []) before free) (beside_longer (place ++ i ∷ []) (0 ∷ []) before free)
      (λ k room. act_told parts act ([] ∷ stack) before ((place ++ i ∷ []) ++ 0 ∷ []) 0 k room)))
  act_told parts (For' start test advance b p act) stack before place i h free =
      let own : ScopePath = place ++ i ∷ [] in
      let room : HasRoom own 0 before = room_within own before free in
      let walk_body : List Declaration → Walk = λ known. walk_act parts known (own ++ 2 ∷ []) (own ++ 2 ∷ 0 ∷ []) (pure_act act) in
      let walk_advance : List Declaration → Walk = λ known. in_turn known (walk_held parts known own (own ++ 1 ∷ []) (pure_held advance)) walk_body in
      let walk_test : List Declaration → Walk = λ known. in_turn known (only (optional (number_checks (kinds known own)) (option_map pure_expr test))) walk_advance in
      let bodied : Stack → Result Stack TypeFault = λ s. inside (λ inner. act_on parts inner act) s in
      let tested : Stack → Result Stack TypeFault = λ s. unless (first_fault (optional (number_checks (kinds_in s)) (option_map pure_expr test))) (held_on parts s advance >>= bodied) in
      weaker (IsInside own) (IsMade place i) (made place i) (inside (λ s. held_on parts s start >>= tested) stack) stack before place
      (in_turn before (walk_held parts before own (own ++ 0 ∷ []) (pure_held start)) walk_test)
      (own_scope (λ s. held_on parts s start >>= tested) stack before place own i [] (in_turn before (walk_held parts before own (own ++ 0 ∷ []) (pure_held start)) walk_test) (sym (append-nil own)) h
      (turns (IsMade own 0) (IsInside own) (IsInside own) (held_on parts ([] ∷ stack) start) tested ([] ∷ stack) before own (walk_held parts before own (own ++ 0 ∷ []) (pure_held start)) walk_test
      (kept own 0) (λ d m. m) (held_told parts start ([] ∷ stack) before own 0 (begun stack before place i h free) (room.free 0 (omega arith)))
      (λ s v. let known : List Declaration = before ++ (walk_held parts before own (own ++ 0 ∷ []) (pure_held start)).declares in
      let room_then : HasRoom own 1 known = room_more own 0 before (walk_held parts before own (own ++ 0 ∷ []) (pure_held start)).declares room v.each in
      checks_known (IsInside own) (λ ks. optional (number_checks ks) (option_map pure_expr test)) (held_on parts s advance >>= bodied) s known own walk_advance v.stands
      (turns (IsMade own 1) (IsInside (own ++ 2 ∷ [])) (IsInside own) (held_on parts s advance) bodied s known own (walk_held parts known own (own ++ 1 ∷ []) (pure_held advance)) walk_body
      (kept own 1) (shorter own (2 ∷ [])) (held_told parts advance s known own 1 v.stands (room_then.free 1 (omega arith)))
      (λ r w. let all : List Declaration = known ++ (walk_held parts known own (own ++ 1 ∷ []) (pure_held advance)).declares in
      let room_last : HasRoom own 2 all = room_more own 1 known (walk_held parts known own (own ++ 1 ∷ []) (pure_held advance)).declares room_then w.each in
      nested_here (λ inner. act_on parts inner act) (λ way. walk_act parts all (own ++ 2 ∷ []) way (pure_act act)) r all own 2 w.stands (room_last.free 2 (omega arith))
      (λ k last. act_told parts act ([] ∷ r) all (own ++ 2 ∷ []) 0 k last))))))
  act_told parts (Block' shape row) stack before place i h free =
      let own : ScopePath = place ++ i ∷ [] in
      weaker (IsInside own) (IsMade place i) (made place i) (inside (λ inner. row_on parts inner row) stack) stack before place (walk_row parts before own 0 (pure_row row))
      (own_scope (λ inner. row_on parts inner row) stack before place own i [] (walk_row parts before own 0 (pure_row row)) (sym (append-nil own)) h
      (row_told parts row ([] ∷ stack) before own 0 (begun stack before place i h free) (room_within own before free)))
  act_told parts Empty stack before place i h free = nothing (IsMade place i) stack before place h

  pub held_told : (parts : List PurePart) (held : Held-Act-If-2) (stack : Stack) (before : List Declaration) (place : ScopePath) (i : ℕ) → Stands stack before place → AreBeside (place ++ i ∷ []) before
      → Tells (IsMade place i) (held_on parts stack held) stack before place (walk_held parts before place (place ++ i ∷ []) (pure_held held))
  held_told parts None' stack before place i h free = nothing (IsMade place i) stack before place h
  held_told parts (Some' b p act) stack before place i h free = act_told parts act stack before place i h free

  -- an `else` has the scope of the part after the body
  pub else_told : (parts : List PurePart) (held : Held-Act-If-2) (stack : Stack) (before : List Declaration) (place : ScopePath) (i : ℕ) → Stands stack before place
      → AreAlike place ((place ++ i ∷ []) ++ 1 ∷ []) before → AreBeside ((place ++ i ∷ []) ++ 1 ∷ []) before
      → Tells (IsInside ((place ++ i ∷ []) ++ 1 ∷ [])) (else_on parts stack held) stack before place (walk_held parts before ((place ++ i ∷ []) ++ 1 ∷ []) ((place ++ i ∷ []) ++ 1 ∷ 0 ∷ []) (pure_held held))
  else_told parts None' stack before place i h sight free = nothing (IsInside ((place ++ i ∷ []) ++ 1 ∷ [])) stack before place h
  else_told parts (Some' b p act) stack before place i h sight free =
      nested (λ inner. act_on parts inner act) (λ way. walk_act parts before ((place ++ i ∷ []) ++ 1 ∷ []) way (pure_act act)) stack before place i 1 h sight free
      (λ k room. act_told parts act ([] ∷ stack) before ((place ++ i ∷ []) ++ 1 ∷ []) 0 k room)

  pub row_told : {m : _} (parts : List PurePart) (row : Row_of-Stmt m) (stack : Stack) (before : List Declaration) (place : ScopePath) (i : ℕ) → Stands stack before place → HasRoom place i before
      → Tells (IsInside place) (row_on parts stack row) stack before place (walk_row parts before place i (pure_row row))
  row_told parts end_of-Stmt stack before place i h room = nothing (IsInside place) stack before place h
  row_told parts (more_of-Stmt at act rest) stack before place i h room =
      turns (IsMade place i) (IsInside place) (IsInside place) (act_on parts stack act) (λ after. row_on parts after rest) stack before place
      (walk_act parts before place (place ++ i ∷ []) (pure_act act)) (λ known. walk_row parts known place (suc i) (pure_row rest)) (kept place i) (λ d m. m)
      (act_told parts act stack before place i h (room.free i (omega arith)))
      (λ after w. row_told parts rest after (before ++ (walk_act parts before place (place ++ i ∷ []) (pure_act act)).declares) place (suc i) w.stands
      (room_more place i before (walk_act parts before place (place ++ i ∷ []) (pure_act act)).declares room w.each))

-- ---- the statements of a module

stmts_told : (parts : List PurePart) (ss : List Stmt) (stack : Stack) (before : List Declaration) (i : ℕ) → Stands stack before [] → HasRoom [] i before
    → Tells (IsInside []) (stmts_on parts stack ss) stack before [] (walk_stmts parts before i (map pure_stmt ss))
stmts_told parts [] stack before i h room = nothing (IsInside []) stack before [] h
stmts_told parts (s ∷ ss) stack before i h room =
    turns (IsMade [] i) (IsInside []) (IsInside []) (act_on parts stack s.act) (λ after. stmts_on parts after ss) stack before []
    (walk_act parts before [] (i ∷ []) (pure_act s.act)) (λ known. walk_stmts parts known (suc i) (map pure_stmt ss)) (kept [] i) (λ d m. m)
    (act_told parts s.act stack before [] i h (room.free i (omega arith)))
    (λ after w. stmts_told parts ss after (before ++ (walk_act parts before [] (i ∷ []) (pure_act s.act)).declares) (suc i) w.stands
    (room_more [] i before (walk_act parts before [] (i ∷ []) (pure_act s.act)).declares room w.each))

body_told : (parts : List PurePart) (ss : List Stmt) (stack : Stack) (before : List Declaration) → StandsAtBody stack before
    → Tells (IsInside []) (stmts_on parts stack ss) stack before [] (walk_stmts parts before 0 (map pure_stmt ss))
body_told parts ss stack before h = stmts_told parts ss stack before 0 h.stands (record {
  free = λ j le. every_weaker (λ d. d.scope ≡ []) (IsBeside (j ∷ [])) (λ d e. record { beside = ap (is_prefix (j ∷ [])) e }) before h.outermost;
})

pub body_fine : (parts : List PurePart) (ss : List Stmt) (stack after : Stack) → stmts_on parts stack ss ≡ Ok after
    → (before : List Declaration) → StandsAtBody stack before → first_fault (walk_stmts parts before 0 (map pure_stmt ss)).checks ≡ None
body_fine parts ss stack after e before h =
    (subst (λ (r : Result Stack TypeFault). Tells (IsInside []) r stack before [] (walk_stmts parts before 0 (map pure_stmt ss))) e (body_told parts ss stack before h)).fine

pub body_fault : (parts : List PurePart) (ss : List Stmt) (stack : Stack) (f : TypeFault) → stmts_on parts stack ss ≡ Err f
    → (before : List Declaration) → StandsAtBody stack before → first_fault (walk_stmts parts before 0 (map pure_stmt ss)).checks ≡ Some f
body_fault parts ss stack f e before h =
    subst (λ (r : Result Stack TypeFault). Tells (IsInside []) r stack before [] (walk_stmts parts before 0 (map pure_stmt ss))) e (body_told parts ss stack before h)

-- a body without a fault is walked to its end
pub body_runs : (parts : List PurePart) (ss : List Stmt) (stack : Stack) (before : List Declaration) → StandsAtBody stack before → first_fault (walk_stmts parts before 0 (map pure_stmt ss)).checks ≡ None
    → (after : Stack) × (stmts_on parts stack ss ≡ Ok after)
body_runs parts ss stack before h fine = by (stmts_on parts stack ss) refl (body_told parts ss stack before h)
  where
    by : (r : Result Stack TypeFault) → stmts_on parts stack ss ≡ r → Tells (IsInside []) r stack before [] (walk_stmts parts before 0 (map pure_stmt ss))
        → (after : Stack) × (stmts_on parts stack ss ≡ Ok after)
    by (Ok after) is told = (after, is)
    by (Err f) is told = absurd (let impossible : Some f ≡ None = sym told ∙ fine in cc)
