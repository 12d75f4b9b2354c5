-- The checks of a source.
use Rattle.std.specs.Prelude.{ℕ, suc, Bool, true, false, not, ◌&&◌, nat_eq, if◌then◌else◌, Option, Some, None, List, [], ◌∷◌, ◌++◌, length, map, codes}
use Rattle.std.specs.List.{list_any}
use Rattle.sc_base.specs.Texts.{same}
use Rattle.sc_syntax.specs.declared.NameKind.{NameKind}
use Rattle.sc_syntax.specs.declared.NameKind.TheVariants as kind
use Rattle.sc_syntax.specs.declared.NumSort.TheVariants as num
use Rattle.sc_syntax.specs.declared.Name.{Name}
use Rattle.sc_syntax.specs.declared.Part.{Part}
use Rattle.sc_syntax.specs.declared.Source.{Source}
use Rattle.sc_syntax.specs.Alike.{PureStmt, PureSort, PureParam, PurePart, of_module, of_words, pure_part, pure_source}
use Rattle.sc_syntax.specs.NameKind.{Kinds}
use Rattle.sc_word.specs.declared.WordFault.{WordFault}
use Rattle.sc_word.specs.declared.WordFault.TheVariants as word
use Rattle.sc_word.specs.Pure.{PureWordFn}
use Rattle.sc_word.specs.Checks as words
use Rattle.sc_types.specs.declared.fault.TypeFault.{TypeFault}
use Rattle.sc_types.specs.declared.fault.TypeFault.TheVariants as fault
use Rattle.sc_types.specs.Checks.{Check, check, first_fault}
use Rattle.sc_types.specs.Declarations.{Declaration, declared_kind, or_pi, is_new}
use Rattle.sc_types.specs.Numbers.{int_checks}
use Rattle.sc_types.specs.Statements.{Walk, only, in_turn, walk_act, part_name}

-- ---- parameters of a module

-- a later `int` parameter of this name
abbrev pub is_int_named : List ℕ → PureParam → Bool
is_int_named name p = same name p.name.text && is_int_sort p.sort
  where
    is_int_sort : PureSort → Bool
    is_int_sort PureSort.int = true
    is_int_sort _ = false

abbrev pub or_later : List PureParam → List ℕ → Option NameKind → Option NameKind
or_later later name (Some k) = Some k
or_later later name None = if list_any (is_int_named name) later then Some (kind.Number num.Int) else None

-- a length names an earlier parameter, else a later `int` parameter of the module
abbrev pub length_kinds : List Declaration → List PureParam → Kinds
length_kinds before later name = or_pi name (or_later later name (declared_kind before [] name))

abbrev pub param_kind : PureSort → NameKind
param_kind (PureSort.one c) = kind.One c
param_kind (PureSort.many c e) = kind.Many c
param_kind PureSort.int = kind.Number num.Int
param_kind PureSort.double = kind.Number num.Double

abbrev pub length_checks : Kinds → PureSort → List Check
length_checks ks (PureSort.many c (Some e)) = int_checks ks e
length_checks ks _ = []

-- the length, and then the name
abbrev pub walk_params : List Declaration → List PureParam → Walk
walk_params before [] = only []
walk_params before (p ∷ ps) =
    in_turn before (record {
      checks = length_checks (length_kinds before ps) p.sort ++ is_new before [] p.name ∷ [];
      declares = record { name = p.name.text; kind = param_kind p.sort; scope = [] } ∷ [];
    }) (λ known. walk_params known ps)

-- the statements of a body from the i-th on, in the scope of the parameters
abbrev pub walk_stmts : List PurePart → List Declaration → ℕ → List PureStmt → Walk
walk_stmts parts before i [] = only []
walk_stmts parts before i (s ∷ ss) = in_turn before (walk_act parts before [] (i ∷ []) s.act) (λ known. walk_stmts parts known (suc i) ss)

abbrev pub walk_module : List PurePart → List PureParam → List PureStmt → Walk
walk_module parts params body = in_turn [] (walk_params [] params) (λ known. walk_stmts parts known 0 body)

-- ---- parts

abbrev pub of_word : WordFault → TypeFault
of_word (word.UnknownName at) = fault.UnknownName at
of_word (word.Redefined at) = fault.Redefined at
of_word (word.BadWidth at) = fault.BadWidth at
of_word word.Memory = fault.Memory

abbrev pub words_checks : PureWordFn → List Check
words_checks f = map (λ c. check c.passes (of_word c.fault)) (words.checks_fn f)

abbrev pub part_checks : List PurePart → PurePart → List Check
part_checks parts (of_module name params body) = (walk_module parts params body).checks
part_checks parts (of_words name params width binds result) = words_checks (record { params = params; width = width; binds = binds; result = result })

abbrev pub name_of : PurePart → Name
name_of (of_module name params body) = name
name_of (of_words name params width binds result) = name

-- no earlier part has the name
abbrev pub is_new_part : List PurePart → PurePart → Check
is_new_part earlier p = check (not (list_any (λ q. same (part_name p) (part_name q)) earlier)) (fault.Redefined (name_of p).place)

abbrev pub parts_checks : List PurePart → List PurePart → List PurePart → List Check
parts_checks parts earlier [] = []
parts_checks parts earlier (p ∷ ps) = is_new_part earlier p ∷ part_checks parts p ++ parts_checks parts (earlier ++ p ∷ []) ps

-- the module `main` without parameters
abbrev pub is_main : PurePart → Bool
is_main (of_module name params body) = same name.text (codes "main") && nat_eq (length params) 0
is_main (of_words name params width binds result) = false

-- the same of a part as it lies in memory
abbrev pub is_main_part : Part → Bool
is_main_part p = is_main (pure_part p)

-- all checks in the order of the walk, and then that there is a main
abbrev pub checks : List PurePart → List Check
checks parts = parts_checks parts [] parts ++ check (list_any is_main parts) fault.NoMain ∷ []

-- the fault of a source, which is that of its tree without addresses
abbrev pub fault_of : Source → Option TypeFault
fault_of source = first_fault (checks (pure_source source))
