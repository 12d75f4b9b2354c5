-- The parts of phrases.
use Rattle.std.proofs.Common.{◌≡◌, refl, sym, ◌∙◌, ap, append-nil, ℕ, true, false, List, [], ◌∷◌, ◌++◌, drop, Option, Some, None}
use Rattle.sc_base.specs.declared.GateName.{GateName}
use Rattle.sc_base.specs.declared.GateName.TheVariants as gate
use Rattle.sc_syntax.specs.declared.Bind.{Bind}
use Rattle.sc_syntax.specs.declared.Expr.{Expr}
use Rattle.sc_syntax.specs.declared.Name.{Name}
use Rattle.sc_syntax.specs.declared.Param.{Param}
use Rattle.sc_syntax.specs.declared.Stmt.{Stmt}
use Rattle.sc_syntax.specs.declared.TokenSort.{TokenSort}
use Rattle.sc_syntax.specs.declared.TokenSort.TheVariants as sort
use Rattle.sc_syntax.specs.declared.Width.{Width}
use Rattle.sc_syntax.specs.declared.WordExpr.{WordExpr}
use Rattle.sc_syntax.specs.declared.WordParam.{WordParam}
use Rattle.sc_parse.specs.declared.terminal.Terminal.TheVariants.{Measuring}
use Rattle.sc_parse.specs.Terminals.{kind_of, gate_kind, is_measuring}
use Rattle.sc_parse.specs.Pieces.{Piece, next}
use Rattle.sc_parse.specs.Form.{Form, Symbol, ◌∣◌}
use Rattle.sc_parse.specs.Trees.{Tree, token, name, width, wire, num, expr, decl, init, stmt, meas, param, part, word_expr, word_param, bind, kept, each, if_there}
use Rattle.sc_parse.specs.Derives.{Builds}
use Rattle.sc_parse.specs.Runs.{begins}
use Rattle.sc_parse.specs.Reads.{Reads, Keeps, Makes, MakesAfter}
use Rattle.sc_parse.proofs.Steps.{reads_left, reads_right}

pub each-append : {X : Type 0} (wrap : X → Tree) (xs ys : List X) → each wrap (xs ++ ys) ≡ each wrap xs ++ each wrap ys
each-append wrap [] ys = refl
each-append wrap (x ∷ xs) ys = ap (λ (us : List Tree). wrap x ∷ us) (each-append wrap xs ys)

pub kept-append : (us vs : List Tree) → kept (us ++ vs) ≡ kept us ++ kept vs
kept-append [] vs = refl
kept-append (token p ∷ us) vs = kept-append us vs
kept-append (name x ∷ us) vs = ap (λ (ws : List Tree). name x ∷ ws) (kept-append us vs)
kept-append (width x ∷ us) vs = ap (λ (ws : List Tree). width x ∷ ws) (kept-append us vs)
kept-append (wire x y ∷ us) vs = ap (λ (ws : List Tree). wire x y ∷ ws) (kept-append us vs)
kept-append (num x y ∷ us) vs = ap (λ (ws : List Tree). num x y ∷ ws) (kept-append us vs)
kept-append (expr x ∷ us) vs = ap (λ (ws : List Tree). expr x ∷ ws) (kept-append us vs)
kept-append (decl x ∷ us) vs = ap (λ (ws : List Tree). decl x ∷ ws) (kept-append us vs)
kept-append (init x ∷ us) vs = ap (λ (ws : List Tree). init x ∷ ws) (kept-append us vs)
kept-append (stmt x ∷ us) vs = ap (λ (ws : List Tree). stmt x ∷ ws) (kept-append us vs)
kept-append (meas x y ∷ us) vs = ap (λ (ws : List Tree). meas x y ∷ ws) (kept-append us vs)
kept-append (param x ∷ us) vs = ap (λ (ws : List Tree). param x ∷ ws) (kept-append us vs)
kept-append (part x ∷ us) vs = ap (λ (ws : List Tree). part x ∷ ws) (kept-append us vs)
kept-append (word_expr x ∷ us) vs = ap (λ (ws : List Tree). word_expr x ∷ ws) (kept-append us vs)
kept-append (word_param x ∷ us) vs = ap (λ (ws : List Tree). word_param x ∷ ws) (kept-append us vs)
kept-append (bind x ∷ us) vs = ap (λ (ws : List Tree). bind x ∷ ws) (kept-append us vs)

-- a token at the end is not kept
pub kept_end : (us : List Tree) (t : Piece) → kept (us ++ token t ∷ []) ≡ kept us
kept_end us t = kept-append us (token t ∷ []) ∙ append-nil (kept us)

pub kept-each : (ss : List Stmt) → kept (each stmt ss) ≡ each stmt ss
kept-each [] = refl
kept-each (s ∷ ss) = ap (λ (us : List Tree). stmt s ∷ us) (kept-each ss)

pub makes : {f : Form} {s : Symbol} {d : ℕ} {ts : List Piece} {a e : ℕ} {vs : List Tree} {v : Tree} → Reads f d ts a e vs → Builds s vs v → Makes f s d ts a e v
makes {vs = vs} r b = record { parts = vs; reads = r; builds = b }

pub after_left : {f g : Form} {s : Symbol} {d : ℕ} {ts : List Piece} {a e : ℕ} {u v : Tree} → begins f (next (drop a ts)) ≡ true → MakesAfter f s d ts a e u v → MakesAfter (f ∣ g) s d ts a e u v
after_left b m = record { parts = m.parts; reads = reads_left b m.reads; builds = m.builds }

pub after_right : {f g : Form} {s : Symbol} {d : ℕ} {ts : List Piece} {a e : ℕ} {u v : Tree} → begins f (next (drop a ts)) ≡ false → MakesAfter g s d ts a e u v → MakesAfter (f ∣ g) s d ts a e u v
after_right b m = record { parts = m.parts; reads = reads_right b m.reads; builds = m.builds }

pub keeps : {f : Form} {d : ℕ} {ts : List Piece} {a e : ℕ} {vs ws : List Tree} → Reads f d ts a e vs → kept vs ≡ ws → Keeps f d ts a e ws
keeps {vs = vs} r k = record { parts = vs; reads = r; same = k }

pub kept-there : (o : Option Expr) → kept (if_there expr o) ≡ if_there expr o
kept-there None = refl
kept-there (Some e) = refl

kept-binds : (bs : List Bind) → kept (each bind bs) ≡ each bind bs
kept-binds [] = refl
kept-binds (b ∷ bs) = ap (λ (us : List Tree). bind b ∷ us) (kept-binds bs)

-- what is kept of a module
pub kept_module : (h p r : List Tree) (ss : List Stmt) (a b c d : Piece) (n : Name) (ps : List Param) → kept h ≡ name n ∷ [] → kept p ≡ each param ps → kept r ≡ []
    → kept (h ++ (token a ∷ (p ++ (token b ∷ (token c ∷ (each stmt ss ++ (r ++ (token d ∷ [])))))))) ≡ name n ∷ (each param ps ++ each stmt ss)
kept_module h p r ss a b c d n ps kh kp kr =
    let last : kept (each stmt ss ++ (r ++ (token d ∷ []))) ≡ each stmt ss = kept-append (each stmt ss) _ ∙ ap (λ (us : List Tree). us ++ kept (r ++ (token d ∷ []))) (kept-each ss) ∙ ap (λ (us : List Tree). each stmt ss ++ us) (kept_end r d ∙ kr) ∙ append-nil (each stmt ss) in
    let middle : kept (p ++ (token b ∷ (token c ∷ (each stmt ss ++ (r ++ (token d ∷ [])))))) ≡ each param ps ++ each stmt ss = kept-append p _ ∙ ap (λ (us : List Tree). us ++ kept (each stmt ss ++ (r ++ (token d ∷ [])))) kp ∙ ap (λ (us : List Tree). each param ps ++ us) last in
    kept-append h _ ∙ ap (λ (us : List Tree). us ++ kept (p ++ (token b ∷ (token c ∷ (each stmt ss ++ (r ++ (token d ∷ []))))))) kh ∙ ap (λ (us : List Tree). name n ∷ us) middle

-- what is kept of a classical function
pub kept_words : (p : List Tree) (a b c d e g h i : Piece) (n : Name) (ps : List WordParam) (w : Width) (bs : List Bind) (x : WordExpr) → kept p ≡ each word_param ps
    → kept (token a ∷ (name n ∷ (token b ∷ (p ++ (token c ∷ (token d ∷ (width w ∷ (token e ∷ (each bind bs ++ (token g ∷ (word_expr x ∷ (token h ∷ (token i ∷ []))))))))))))) ≡ name n ∷ (each word_param ps ++ width w ∷ (each bind bs ++ word_expr x ∷ []))
kept_words p a b c d e g h i n ps w bs x kp =
    let rest : List Tree = token c ∷ (token d ∷ (width w ∷ (token e ∷ (each bind bs ++ (token g ∷ (word_expr x ∷ (token h ∷ (token i ∷ [])))))))) in
    let last : kept (each bind bs ++ (token g ∷ (word_expr x ∷ (token h ∷ (token i ∷ []))))) ≡ each bind bs ++ word_expr x ∷ [] = kept-append (each bind bs) _ ∙ ap (λ (us : List Tree). us ++ word_expr x ∷ []) (kept-binds bs) in
    ap (λ (us : List Tree). name n ∷ us) (kept-append p rest ∙ ap (λ (us : List Tree). us ++ kept rest) kp ∙ ap (λ (us : List Tree). each word_param ps ++ width w ∷ us) last)

gate_measures : (g : GateName) → is_measuring (gate_kind g) ≡ true → gate_kind g ≡ Measuring
gate_measures gate.X e = cc
gate_measures gate.Y e = cc
gate_measures gate.Z e = cc
gate_measures gate.H e = cc
gate_measures gate.S e = cc
gate_measures gate.T e = cc
gate_measures gate.Sdag e = cc
gate_measures gate.Tdag e = cc
gate_measures gate.Cnot e = cc
gate_measures gate.Toffoli e = cc
gate_measures gate.Fredkin e = cc
gate_measures gate.Rx e = cc
gate_measures gate.Ry e = cc
gate_measures gate.Rz e = cc
gate_measures gate.PrepX e = cc
gate_measures gate.PrepZ e = cc
gate_measures gate.MeasX e = refl
gate_measures gate.MeasZ e = refl

-- a gate that measures
pub measuring_gate : (s : TokenSort) (text : List ℕ) (g : GateName) → s ≡ sort.Gate g → is_measuring (kind_of s text) ≡ true → gate_kind g ≡ Measuring
measuring_gate s text g e h = gate_measures g (ap (λ (x : TokenSort). is_measuring (kind_of x text)) (sym e) ∙ h)
