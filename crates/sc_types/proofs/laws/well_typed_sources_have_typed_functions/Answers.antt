use Rattle.sc_types.proofs.TypedParts.{checked_of}
use Rattle.sc_types.proofs.laws.well_typed_sources_have_typed_functions.Goals as goal

pub returns : goal.returns
returns c = checked_of
