use Rattle.std.proofs.Common.{◌≡◌, ◌+◌, sym, ◌∙◌, subst, ap, List, length, take, All, arith}
use Rattle.std.proofs.lemmas.List.{nil_from_length}
use Rattle.sc_syntax.specs.Cuts.{IsReading}
use Rattle.sc_syntax.specs.TokenLists.{IsRead}
use Rattle.sc_syntax.specs.declared.reading.Reading.{Reading}
use Rattle.sc_syntax.specs.declared.token.Token.{Token as OneToken}
use Rattle.sc_syntax.proofs.CutLemmas.{cut_of, length_part, ends_within, slice_is, read_token, is_next}
use Rattle.sc_syntax.proofs.Scanning.{scan_turn, scan_ends, scan_stops, scan_fails}
use Rattle.sc_syntax.proofs.define.scan.Goals as goal

pub returns-in_default-clause-scanned : goal.returns-in_default-clause-scanned
returns-in_default-clause-scanned c =
    let size = ap length c.part-rest.ensures ∙ length_part c.args.source.now c.loop-at.at c.args.to c.loop-at.invariant.within c.requires.within in
    scan_stops _ _ _ _ _ _ _ c.loop-at.invariant.scans_on c.part-rest.ensures (omega (arith, size)) c.in_default.ensures.next

pub returns-then-not-branch-clause-scanned : goal.returns-then-not-branch-clause-scanned
returns-then-not-branch-clause-scanned c =
    let cut = cut_of c.loop-at.invariant.within c.requires.within c.part-rest.ensures c.in-Some.ensures.size.1 c.in-Some.ensures.next in
    let P : Reading → Type 0 = λ r. IsReading c.in-Some.piece.kind (take c.in-Some.piece.len c.part-rest.result.now) r in
    scan_fails _ _ _ _ _ _ _ c.in-Some.piece.len _ _ c.loop-at.invariant.scans_on cut (subst P (c.in_ok-push_reading.ensures.unread c.if-not-branch.true) c.read_piece-reading.ensures)

pub loop-at-preserved : goal.loop-at-preserved
loop-at-preserved c =
    let cut = cut_of c.loop-at.invariant.within c.requires.within c.part-rest.ensures c.in-Some.ensures.size.1 c.in-Some.ensures.next in
    let grows = c.in_ok-push_reading.ensures.grows c.if-not-branch.false in
    let more = ends_within _ _ _ _ _ c.in-Some.piece.len _ _ cut in
    let P : List OneToken → Type 0 = λ t. All (IsRead c.args.source.now) t in
    record {
      scans_on = rw grows (scan_turn _ _ _ _ _ _ _ c.in-Some.piece.len _ _ _ c.loop-at.invariant.scans_on cut c.read_piece-reading.ensures (c.in_ok-push_reading.ensures.read c.if-not-branch.false));
      within = more;
      read = subst P (sym grows) (read_token c.args.source.now _ c.loop-at.at (c.loop-at.at + c.in-Some.piece.len) _ c.in-Some.piece.kind c.read_piece-reading.result c.args.place c.loop-at.tokens
          (omega arith) (omega (arith, more, c.requires.within)) (slice_is _ _ _ _ _ c.in-Some.piece.len _ _ cut) (is_next _ _ _ _ _ c.in-Some.piece.len _ _ cut).is_piece c.read_piece-reading.ensures c.loop-at.invariant.read);
    }

pub returns-clause-scanned : goal.returns-clause-scanned
returns-clause-scanned c =
    let same : c.loop-at.at ≡ c.args.to = omega arith in
    let size = length_part c.args.source.now c.loop-at.at c.args.to c.loop-at.invariant.within c.requires.within in
    scan_ends _ _ _ _ _ _ c.loop-at.invariant.scans_on (nil_from_length _ (omega (arith, size)))
