use Rattle.std.proofs.Common.{◌∷◌, [], ◌++◌, sym, ◌∙◌, subst, true≢false}
use Rattle.sc_base.specs.NameTexts.{IsNameText}
use Rattle.sc_read.proofs.HierHeading.{no_open_there, cut_name}
use Rattle.sc_read.proofs.signature.cut_signature.Goals as goal

pub returns-in_default-clause-none : goal.returns-in_default-clause-none
returns-in_default-clause-none c = λ name inside named is. no_open_there c.args.bytes.now c.in_default.ensures.none name (inside ++ 41 ∷ 10 ∷ []) is

pub returns-in_default-cut_end-clause-none : goal.returns-in_default-cut_end-clause-none
returns-in_default-cut_end-clause-none c = λ name inside named is.
    c.in_default-cut_end.ensures.none inside (cut_name c.args.bytes.now c.in-Some.name.now c.in-Some.behind.now c.in-Some.ensures.some c.in-Some.ensures.first name inside named is).1

pub returns-else-is_name_text-clause-none : goal.returns-else-is_name_text-clause-none
returns-else-is_name_text-clause-none c = λ name inside named is.
    let same = (cut_name c.args.bytes.now c.in-Some.name.now c.in-Some.behind.now c.in-Some.ensures.some c.in-Some.ensures.first name inside named is).0 in
    true≢false (sym (c.is_name_text.ensures.1 (subst IsNameText same named)) ∙ c.if-is_name_text.false)
