-- A block goes over its statements as a list.
use Rattle.std.proofs.Common.{◌≡◌, List, [], ◌∷◌, Result, Ok, refl, ap}
use Rattle.std.specs.declared.alloc.Global.{Global}
use Rattle.std.specs.declared.vec.Vec.{Vec}
use Rattle.sc_syntax.specs.declared.Stmt.{Stmt}
use Rattle.sc_syntax.specs.declared.Act.{Block, Row_of-Stmt, end_of-Stmt, more_of-Stmt, items-the_row-Stmt}
use Rattle.sc_syntax.specs.Alike.{PurePart}
use Rattle.sc_syntax.proofs.Rows.{over_stmts}
use Rattle.sc_types.specs.declared.fault.TypeFault.{TypeFault}
use Rattle.sc_types.specs.Scopes.{Stack, left}
use Rattle.sc_types.specs.Sorts.{◌>>=◌}
use Rattle.sc_types.specs.Walking.{act_on, row_on, stmts_on}
use Rattle.sc_types.proofs.Telling.{bind_same}

row_stmts : {m : _} (parts : List PurePart) (row : Row_of-Stmt m) (stack : Stack) → row_on parts stack row ≡ stmts_on parts stack (items-the_row-Stmt m row)
row_stmts parts end_of-Stmt stack = refl
row_stmts parts (more_of-Stmt place act rest) stack =
    bind_same (act_on parts stack act) (λ after. row_on parts after rest) (λ after. stmts_on parts after (items-the_row-Stmt _ rest)) (λ after. row_stmts parts rest after)

pub block_stmts : (parts : List PurePart) (stack : Stack) (stmts : Vec Stmt Global)
    → act_on parts stack (Block stmts) ≡ (stmts_on parts ([] ∷ stack) stmts.items >>= λ after. Ok (left after))
block_stmts parts stack stmts =
    ap (λ (r : Result Stack TypeFault). r >>= λ after. Ok (left after))
    (over_stmts (λ m row. row_on parts ([] ∷ stack) row) (λ ss. stmts_on parts ([] ∷ stack) ss) (λ m row. row_stmts parts row ([] ∷ stack)) stmts)
