use Rattle.std.proofs.Common.{true, false, Some, sym, ap, ◌∙◌}
use Rattle.sc_syntax.specs.declared.Name.{Name}
use Rattle.sc_types.specs.declared.fault.TypeFault.TheVariants.{Redefined}
use Rattle.sc_types.specs.FirstParts.{has_name}
use Rattle.sc_types.specs.Positions.{first_at, is_position}
use Rattle.sc_types.proofs.PartLemmas.{is_new_name}
use Rattle.sc_types.proofs.parts.new_part.Goals as goal

pub returns-then-is_first : goal.returns-then-is_first
returns-then-is_first c =
    is_new_name c.args.parts.now c.args.position c.args.part.now true c.requires
    (sym c.if-is_first.true ∙ c.is_first.ensures ∙ ap (λ (n : Name). is_position c.args.position (first_at (has_name n.text) c.args.parts.now)) c.name_of-name.ensures)

pub returns-else-is_first : goal.returns-else-is_first
returns-else-is_first c =
    ap (λ (n : Name). Some (Redefined n.place)) c.name_of-name.ensures
    ∙ is_new_name c.args.parts.now c.args.position c.args.part.now false c.requires
    (sym c.if-is_first.false ∙ c.is_first.ensures ∙ ap (λ (n : Name). is_position c.args.position (first_at (has_name n.text) c.args.parts.now)) c.name_of-name.ensures)
