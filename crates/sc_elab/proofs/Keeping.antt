-- Declarations, settings, gates and measurements take no step, and enter and leave no scope.
use Rattle.std.proofs.Common.{◌≡◌, ℕ, zero, suc, ◌+◌, Bool, true, false, cond, List, [], ◌∷◌, ◌++◌, length, Option, Result, Ok, Err, refl, ap, ◌∙◌}
use Rattle.std.specs.Prelude.{ℤ, pos, negsuc, nat_le}
use Rattle.std.specs.FinMap.{contains_key, insert}
use Rattle.sc_base.specs.declared.Place.{Place}
use Rattle.sc_base.specs.declared.Class.{Class}
use Rattle.sc_syntax.specs.declared.Name.{Name}
use Rattle.sc_syntax.specs.declared.NumSort.{NumSort}
use Rattle.sc_syntax.specs.declared.SetOp.{SetOp}
use Rattle.sc_syntax.specs.Alike.{PureExpr, PureNamed, PureParam}
use Rattle.sc_value.specs.declared.Value.{Value}
use Rattle.sc_value.specs.declared.Value.TheVariants as value
use Rattle.sc_value.specs.Scopes.{Scopes, with_declared, with_set}
use Rattle.sc_deck.specs.declared.Arg.{Arg}
use Rattle.sc_deck.specs.declared.Arg.TheVariants as arg
use Rattle.sc_deck.specs.Events.{Event, Fresh}
use Rattle.sc_meaning.specs.declared.choice.Choice.{Choice}
use Rattle.sc_meaning.specs.declared.fault.ElabFault.{ElabFault}
use Rattle.sc_meaning.specs.declared.fault.ElabFault.TheVariants.{TooWide, BadSize}
use Rattle.sc_elab.specs.declared.frame.Frame.{Frame}
use Rattle.sc_elab.specs.declared.todo.Todo.{Todo}
use Rattle.sc_meaning.specs.Arguments.{number_params}
use Rattle.sc_elab.specs.Beginnings.{Begun}
use Rattle.sc_elab.specs.Folding.{written}
use Rattle.sc_elab.specs.Frames.{view, made, Runs}
use Rattle.sc_meaning.specs.Local.{Made, make, ran}
use Rattle.sc_meaning.specs.Outcomes.{Outcome, Done, Stopped, after, then_do, given}
use Rattle.sc_meaning.specs.Run.{make_wires, size_of, declare_wires, declare_numbers, set_number}
use Rattle.sc_meaning.specs.States.{State, with_fresh, with_number, with_new_value}
use Rattle.sc_meaning.specs.Values.{start_value, new_value, old_value}
use Rattle.sc_elab.proofs.Beginning.{begun_still}
use Rattle.sc_meaning.proofs.Ran.{many, few_by}

-- so many steps are left after it, and so many scopes
pub record Keeps (n k : ℕ) (o : Outcome State) : Type 0 where
  pub keeps : (x : List Event) (t : State) → o ≡ Done x t → (t.steps ≡ n) × (length t.numbers ≡ k)

-- the same of what follows from any state with so many
abbrev pub Stays : ℕ → ℕ → (State → Outcome State) → Type 0
Stays n k go = (s : State) → s.steps ≡ n → length s.numbers ≡ k → Keeps n k (go s)

keeps_done : (n k : ℕ) (x : List Event) (t : State) → t.steps ≡ n → length t.numbers ≡ k → Keeps n k (Done x t)
keeps_done n k x t a b = record {
  keeps = λ y u e.
      let q : u ≡ t = cc in
      (ap (λ (v : State). v.steps) q ∙ a, ap (λ (v : State). length v.numbers) q ∙ b);
}

keeps_stopped : (n k : ℕ) (x : List Event) (f : ElabFault) → Keeps n k (Stopped x f)
keeps_stopped n k x f = record { keeps = λ y u e. absurd cc }

keeps_after : (n k : ℕ) (x : List Event) (o : Outcome State) → Keeps n k o → Keeps n k (after x o)
keeps_after n k x (Done y t) h = keeps_done n k (x ++ y) t (h.keeps y t refl).0 (h.keeps y t refl).1
keeps_after n k x (Stopped y f) h = keeps_stopped n k (x ++ y) f

keeps_then : (n k : ℕ) (o : Outcome State) (go : State → Outcome State) → Keeps n k o → Stays n k go → Keeps n k (then_do o go)
keeps_then n k (Done x t) go h stays = keeps_after n k x (go t) (stays t (h.keeps x t refl).0 (h.keeps x t refl).1)
keeps_then n k (Stopped x f) go h stays = keeps_stopped n k x f

keeps_given : {A : Type 0} (n k : ℕ) (r : Result A ElabFault) (go : A → Outcome State) → ((a : A) → Keeps n k (go a)) → Keeps n k (given r go)
keeps_given n k (Ok a) go h = h a
keeps_given n k (Err f) go h = keeps_stopped n k [] f

-- ---- wires

keeps_width : (n k : ℕ) (b : Bool) (x : List Event) (t : State) (f : ElabFault) → t.steps ≡ n → length t.numbers ≡ k → Keeps n k (cond b (Done x t) (Stopped [] f))
keeps_width n k true x t f a b = keeps_done n k x t a b
keeps_width n k false x t f a b = keeps_stopped n k [] f

keeps_make : (n k : ℕ) (c : Class) (name : Name) (z : ℤ) → Stays n k (make_wires c name z)
keeps_make n k c name (pos zero) s a b = keeps_stopped n k [] (BadSize name.place)
keeps_make n k c name (pos (suc m)) s a b =
    keeps_width n k (nat_le (s.width + suc m) 65536) (Fresh c (suc m) ∷ []) (with_fresh c name.text (suc m) s) (TooWide name.place) a b
keeps_make n k c name (negsuc m) s a b = keeps_stopped n k [] (BadSize name.place)

pub keeps_wires : (n k : ℕ) (c : Class) (ds : List PureNamed) → Stays n k (declare_wires c ds)
keeps_wires n k c [] s a b = keeps_done n k [] s a b
keeps_wires n k c (d ∷ ds) s a b =
    keeps_then n k (given (size_of s.numbers d.value) (λ z. make_wires c d.name z s)) (declare_wires c ds)
    (keeps_given n k (size_of s.numbers d.value) (λ z. make_wires c d.name z s) (λ z. keeps_make n k c d.name z s a b)) (keeps_wires n k c ds)

-- ---- numbers

length_declared : (scopes : Scopes) (name : List ℕ) (v : Value) → length (with_declared scopes name v) ≡ length scopes
length_declared [] name v = refl
length_declared (scope ∷ outer) name v = refl

-- the number parameters are declared in the scopes that there are
pub length_number_params : (ps : List PureParam) (args : List Arg) (scopes : Scopes) → length (number_params ps args scopes) ≡ length scopes
length_number_params [] args scopes = refl
length_number_params (p ∷ ps) [] scopes = refl
length_number_params (p ∷ ps) (arg.Int n ∷ args) scopes = length_number_params ps args (with_declared scopes p.name.text (value.Int n)) ∙ length_declared scopes p.name.text (value.Int n)
length_number_params (p ∷ ps) (arg.Double d ∷ args) scopes = length_number_params ps args (with_declared scopes p.name.text (value.Double d)) ∙ length_declared scopes p.name.text (value.Double d)
length_number_params (p ∷ ps) (arg.One c ∷ args) scopes = length_number_params ps args scopes
length_number_params (p ∷ ps) (arg.Many c n ∷ args) scopes = length_number_params ps args scopes

pub keeps_numbers : (n k : ℕ) (sort : NumSort) (ds : List PureNamed) → Stays n k (declare_numbers sort ds)
keeps_numbers n k sort [] s a b = keeps_done n k [] s a b
keeps_numbers n k sort (d ∷ ds) s a b =
    keeps_given n k (start_value s.numbers sort d.value) (λ x. declare_numbers sort ds (with_number d.name.text x s))
    (λ x. keeps_numbers n k sort ds (with_number d.name.text x s) a (length_declared s.numbers d.name.text x ∙ b))

length_by : (b : Bool) (here there : Scopes) (n : ℕ) → length here ≡ n → length there ≡ n → length (cond b here there) ≡ n
length_by true here there n h k = h
length_by false here there n h k = k

length_with_set : (scopes : Scopes) (name : List ℕ) (v : Value) → length (with_set scopes name v) ≡ length scopes
length_with_set [] name v = refl
length_with_set (scope ∷ outer) name v =
    length_by (contains_key scope name) (insert scope name v ∷ outer) (scope ∷ with_set outer name v) (length (scope ∷ outer)) refl
    (ap suc (length_with_set outer name v))

pub keeps_set : (n k : ℕ) (name : Name) (o : SetOp) (mark : Place) (e : Option PureExpr) → Stays n k (set_number name o mark e)
keeps_set n k name o mark e s a b =
    keeps_given n k (new_value s.numbers (old_value s.numbers name.text) o mark e) (λ x. Done [] (with_new_value name.text x s))
    (λ x. keeps_done n k [] (with_new_value name.text x s) a (length_with_set s.numbers name.text x ∙ b))

-- ---- what the code has done

never : {A : Type 0} (f : ElabFault) (a : A) → Err f ≡ Ok a → ⊥
never f a h = cc

same_pair : (p q : State × Made) (r : Result (State × Made) ElabFault) → r ≡ Ok p → r ≡ Ok q → q ≡ p
same_pair p q r h k = cc

kept_left : (n k : ℕ) (choice : Choice) (m m' : Made) (o : Outcome State) (t : State) → Keeps n k o → ran choice m o ≡ Ok (t, m') → (t.steps ≡ n) × (length t.numbers ≡ k)
kept_left n k choice m m' (Done x a) t h is =
    let p : State × Made = (a, make choice x m) in
    let q : (t, m') ≡ p = same_pair p (t, m') (Ok p) refl (few_by (many (make choice x m)) (Ok p) (t, m') is).1 in
    let e : t ≡ a = ap (λ (w : State × Made). w.0) q in
    (ap (λ (v : State). v.steps) e ∙ (h.keeps x a refl).0, ap (λ (v : State). length v.numbers) e ∙ (h.keeps x a refl).1)
kept_left n k choice m m' (Stopped x f) t h is = absurd (never f (t, m') (few_by (many (make choice x m)) (Err f) (t, m') is).1)

-- a part that is done, and puts nothing on the list
pub begun_runs : (choice : Choice) (o : Outcome State) (f g : Frame) (todo : List Todo) → Keeps f.steps (length f.numbers) o → Runs choice o f g → Begun f todo g todo
begun_runs choice o f g todo h runs =
    let kept : (g.steps ≡ f.steps) × (length g.numbers ≡ length f.numbers) =
    kept_left f.steps (length f.numbers) choice (made [] (written f.body.items) [] [] []) (made [] (written g.body.items) [] [] []) o (view g) h (runs [] [] [] [] refl) in
    begun_still f g todo kept.0 kept.1
