-- What parts of a phrase are beside their trees: names are names, and what starts or advances a `for` sets something, or declares numbers at its start.
use Rattle.std.proofs.Common.{◌≡◌, List, [], ◌∷◌}
use Rattle.sc_syntax.specs.declared.TokenSort.TheVariants as sort
use Rattle.sc_syntax.specs.declared.Act.{Act}
use Rattle.sc_syntax.specs.declared.Act as act
use Rattle.sc_syntax.specs.Formed.{IsSetting, IsStart}
use Rattle.sc_parse.specs.declared.expr.Level.{Level}
use Rattle.sc_parse.specs.declared.expr.Level.TheVariants as level
use Rattle.sc_parse.specs.declared.word.WordLevel.{WordLevel}
use Rattle.sc_parse.specs.declared.word.WordLevel.TheVariants as wlevel
use Rattle.sc_parse.specs.Pieces.{Piece}
use Rattle.sc_parse.specs.Form.{sub, ◌⨾◌, mark, optional, Symbol}
use Rattle.sc_parse.specs.Form as symbol
use Rattle.sc_syntax.specs.declared.Mark.TheVariants as m
use Rattle.sc_parse.specs.Rules.{rule, chain_of, word_chain_of, block, if_else, while_loop, for_loop}
use Rattle.sc_parse.specs.Trees.{Tree, token, wire, num, expr, stmt}
use Rattle.sc_parse.specs.Derives.{Derives, nothing, one_token, both, left, right, no_more, more, deeper, built, Builds, start_numbers, start_set, chain_is, operand_is, word_chain_is, word_operand_is}
use Rattle.sc_parse.proofs.Sorts.{name_sort, main_sort}

-- ---- what stands for a symbol

abbrev IsWire : Tree → Type 0
IsWire (wire c p) = Unit {0}
IsWire _ = ⊥

abbrev IsNum : Tree → Type 0
IsNum (num n p) = Unit {0}
IsNum _ = ⊥

abbrev IsExprTree : Tree → Type 0
IsExprTree (expr e) = Unit {0}
IsExprTree _ = ⊥

abbrev IsStmtTree : Tree → Type 0
IsStmtTree (stmt s) = Unit {0}
IsStmtTree _ = ⊥

abbrev IsSettingTree : Tree → Type 0
IsSettingTree (stmt s) = IsSetting s.act
IsSettingTree _ = ⊥

abbrev IsStartTree : Tree → Type 0
IsStartTree (stmt s) = IsStart s.act
IsStartTree _ = ⊥

-- a lone statement is one that may start a `for`
abbrev IsLoneStart : List Tree → Type 0
IsLoneStart (stmt s ∷ []) = IsStart s.act
IsLoneStart _ = Unit {0}

abbrev Looks : Symbol → List Tree → Tree → Type 0
Looks symbol.Wire vs v = IsWire v
Looks symbol.Num vs v = IsNum v
Looks symbol.Expr vs v = IsExprTree v
Looks symbol.Stmt vs v = IsStmtTree v
Looks symbol.Step vs v = IsStmtTree v
Looks symbol.Set vs v = IsSettingTree v
Looks symbol.Start vs v = IsLoneStart vs → IsStartTree v
Looks _ vs v = Unit {0}

looks_chain : (l : Level) (vs : List Tree) (v : Tree) → Looks (chain_of l) vs v
looks_chain level.Or vs v = tt
looks_chain _ vs v = tt

looks_word_chain : (l : WordLevel) (vs : List Tree) (v : Tree) → Looks (word_chain_of l) vs v
looks_word_chain wlevel.Or vs v = tt
looks_word_chain _ vs v = tt

looks : {s : Symbol} {vs : List Tree} {v : Tree} → Builds s vs v → Looks s vs v
looks (start_numbers e) = λ h. tt
looks start_set = λ h. h
looks (operand_is l) = looks_chain l _ _
looks (chain_is l ls a b) = looks_chain l _ _
looks (word_operand_is l) = looks_word_chain l _ _
looks (word_chain_is l ls a b) = looks_word_chain l _ _
looks _ = tt

-- ---- names

abbrev AreNames : List Tree → Type 0
AreNames (token t ∷ []) = t.token.sort ≡ sort.Name
AreNames _ = Unit {0}

name_parts : {ts rest : List Piece} {vs : List Tree} → Derives (rule symbol.Name) ts rest vs → AreNames vs
name_parts (one_token {t = t} e) = name_sort t.token.sort t.text e

main_parts : {ts rest : List Piece} {vs : List Tree} → Derives (rule symbol.MainName) ts rest vs → AreNames vs
main_parts (one_token {t = t} e) = main_sort t.token.sort t.text e

-- ---- what may start a `for`

lone_num : (v : Tree) (vs : List Tree) → IsNum v → IsLoneStart (v ∷ vs)
lone_num (num n p) vs h = tt
lone_num _ vs h = absurd h

setting_starts : (a : Act) → IsSetting a → IsStart a
setting_starts (act.Numbers s l) h = tt
setting_starts _ h = h

lone_setting : (v : Tree) → IsSettingTree v → IsLoneStart (v ∷ [])
lone_setting (stmt s) h = setting_starts s.act h
lone_setting _ h = absurd h

start_parts : {ts rest : List Piece} {vs : List Tree} → Derives (rule symbol.Start) ts rest vs → IsLoneStart vs
start_parts (left (both (built d b) q)) = lone_num _ _ (looks b)
start_parts (right (built d b)) = lone_setting _ (looks b)

-- ---- the parts of a `for`

abbrev EndsFor : List Tree → Type 0
EndsFor (stmt s ∷ token x ∷ vs) = IsSetting s.act
EndsFor _ = Unit {0}

abbrev TestsFor : List Tree → Type 0
TestsFor (expr e ∷ token w ∷ vs) = EndsFor vs
TestsFor (token w ∷ vs) = EndsFor vs
TestsFor _ = Unit {0}

abbrev StartsFor : List Tree → Type 0
StartsFor (stmt s ∷ token v ∷ vs) = IsStart s.act × TestsFor vs
StartsFor (token v ∷ vs) = TestsFor vs
StartsFor _ = Unit {0}

-- after two tokens, what may start a `for`, and what sets something and advances it
abbrev pub IsFor : List Tree → Type 0
IsFor (token t ∷ token u ∷ vs) = StartsFor vs
IsFor _ = Unit {0}

for_wire : (v : Tree) (vs : List Tree) → IsWire v → IsFor (v ∷ vs)
for_wire (wire c p) vs h = tt
for_wire _ vs h = absurd h

for_num : (v : Tree) (vs : List Tree) → IsNum v → IsFor (v ∷ vs)
for_num (num n p) vs h = tt
for_num _ vs h = absurd h

for_stmt : (v : Tree) (vs : List Tree) → IsStmtTree v → IsFor (v ∷ vs)
for_stmt (stmt s) vs h = tt
for_stmt _ vs h = absurd h

for_block : (t : Piece) (v : Tree) (vs : List Tree) → IsStmtTree v → IsFor (token t ∷ v ∷ vs)
for_block t (stmt s) vs h = tt
for_block t _ vs h = absurd h

starts_expr : (v : Tree) (vs : List Tree) → IsExprTree v → StartsFor (v ∷ vs)
starts_expr (expr e) vs h = tt
starts_expr _ vs h = absurd h

starts_for : (v : Tree) (t : Piece) (vs : List Tree) → IsStartTree v → TestsFor vs → StartsFor (v ∷ token t ∷ vs)
starts_for (stmt s) t vs h later = (h, later)
starts_for _ t vs h later = absurd h

tests_expr : (v : Tree) (t : Piece) (vs : List Tree) → IsExprTree v → EndsFor vs → TestsFor (v ∷ token t ∷ vs)
tests_expr (expr e) t vs h later = later
tests_expr _ t vs h later = absurd h

ends_setting : (v : Tree) (t : Piece) (vs : List Tree) → IsSettingTree v → EndsFor (v ∷ token t ∷ vs)
ends_setting (stmt s) t vs h = h
ends_setting _ t vs h = absurd h

for_end : {ts rest : List Piece} {vs : List Tree} → Derives (optional (sub symbol.Set) ⨾ mark m.CloseParen ⨾ sub symbol.Stmt) ts rest vs → EndsFor vs
for_end (both (left (built d b)) (both (one_token e) q)) = ends_setting _ _ _ (looks b)
for_end (both (right nothing) (both (one_token e) q)) = tt

for_test : {ts rest : List Piece} {vs : List Tree}
    → Derives (optional (sub symbol.Expr) ⨾ mark m.Semicolon ⨾ optional (sub symbol.Set) ⨾ mark m.CloseParen ⨾ sub symbol.Stmt) ts rest vs → TestsFor vs
for_test (both (left (built d b)) (both (one_token e) q)) = tests_expr _ _ _ (looks b) (for_end q)
for_test (both (right nothing) (both (one_token e) q)) = for_end q

for_parts : {ts rest : List Piece} {vs : List Tree} → Derives for_loop ts rest vs → IsFor vs
for_parts (both (one_token e) (both (one_token f) (both (left (built d b)) (both (one_token g) q)))) = starts_for _ _ _ (looks b (start_parts d)) (for_test q)
for_parts (both (one_token e) (both (one_token f) (both (right nothing) (both (one_token g) q)))) = for_test q

block_parts : {ts rest : List Piece} {vs : List Tree} → Derives block ts rest vs → IsFor vs
block_parts (both (one_token e) (both no_more (one_token f))) = tt
block_parts (both (one_token {t = t} e) (both (more (built d b) q) r)) = for_block t _ _ (looks b)

if_parts : {ts rest : List Piece} {vs : List Tree} → Derives if_else ts rest vs → IsFor vs
if_parts (both (one_token e) (both (one_token f) (both (built d b) q))) = starts_expr _ _ (looks b)

while_parts : {ts rest : List Piece} {vs : List Tree} → Derives while_loop ts rest vs → IsFor vs
while_parts (both (one_token e) (both (one_token f) (both (built d b) q))) = starts_expr _ _ (looks b)

stmt_parts : {ts rest : List Piece} {vs : List Tree} → Derives (rule symbol.Stmt) ts rest vs → IsFor vs
stmt_parts (deeper (left (both (both (built d b) p) q))) = for_wire _ _ (looks b)
stmt_parts (deeper (right (left (both (both (built d b) p) q)))) = for_num _ _ (looks b)
stmt_parts (deeper (right (right (left (one_token e))))) = tt
stmt_parts (deeper (right (right (right (left p))))) = block_parts p
stmt_parts (deeper (right (right (right (right (left p)))))) = if_parts p
stmt_parts (deeper (right (right (right (right (right (left p))))))) = while_parts p
stmt_parts (deeper (right (right (right (right (right (right (left p)))))))) = for_parts p
stmt_parts (deeper (right (right (right (right (right (right (right (both (built d b) q))))))))) = for_stmt _ _ (looks b)

-- ---- what a phrase's derivation says of its parts beside their trees

abbrev pub Known : Symbol → List Tree → Type 0
Known symbol.Name vs = AreNames vs
Known symbol.MainName vs = AreNames vs
Known symbol.Stmt vs = IsFor vs
Known _ vs = Unit {0}

pub known : (s : Symbol) {ts rest : List Piece} {vs : List Tree} → Derives (rule s) ts rest vs → Known s vs
known symbol.Name d = name_parts d
known symbol.MainName d = main_parts d
known symbol.Stmt d = stmt_parts d
known _ d = tt
