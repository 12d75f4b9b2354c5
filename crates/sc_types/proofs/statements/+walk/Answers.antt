use Rattle.std.proofs.Common.{List, [], ◌∷◌, Ok, sym, ap, ◌∙◌}
use Rattle.sc_syntax.specs.declared.Act.{Act}
use Rattle.sc_syntax.specs.declared.Stmt.{Stmt}
use Rattle.sc_types.specs.Scopes.{Stack, left}
use Rattle.sc_types.specs.Sorts.{◌>>=◌}
use Rattle.sc_types.specs.Walking.{act_on, stmts_on}
use Rattle.sc_types.proofs.Blocks.{block_stmts}
use Rattle.sc_types.proofs.statements.+walk.Goals as goal

pub statement-loop-inner-init : goal.statement-loop-inner-init
statement-loop-inner-init g t c =
    let parts = g.D.Definitions.parts c.args.definitions.now in
    ap (λ (s : Stack). stmts_on parts s c.deref-inner-items.result.now >>= λ after. Ok (left after)) c.in_ok-enter-in-Block.ensures.ok
    ∙ ap (λ (ss : List Stmt). stmts_on parts ([] ∷ c.args.scopes.now) ss >>= λ after. Ok (left after)) c.deref-inner-items.ensures.value
    ∙ sym (block_stmts parts c.args.scopes.now c.in-Block.stmts)
    ∙ ap (λ (act : Act). act_on parts c.args.scopes.now act) (sym c.in-Block.is)
