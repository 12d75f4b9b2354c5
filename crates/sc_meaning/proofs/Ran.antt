-- What parts of a run answer one after another.
use Rattle.std.proofs.Common.{◌≡◌, ℕ, ◌+◌, ◌≤◌, Bool, true, false, cond, List, [], ◌∷◌, ◌++◌, length, Result, Ok, Err, refl, sym, ap, ◌∙◌, arith, append-nil, append_assoc, length-append}
use Rattle.std.specs.Prelude.{nat_lt}
use Rattle.std.specs.List.{list_any}
use Rattle.std.proofs.lemmas.Bool.Decides.{nat_tests}
use Rattle.sc_deck.specs.declared.key.Key.{Key}
use Rattle.sc_deck.specs.Events.{Event, Enter, Fresh, Apply, Return}
use Rattle.sc_deck.specs.Keys.{same_key}
use Rattle.sc_meaning.specs.declared.choice.Choice.{Choice}
use Rattle.sc_meaning.specs.declared.fault.ElabFault.{ElabFault}
use Rattle.sc_meaning.specs.declared.fault.ElabFault.TheVariants.{TooManyInstances}
use Rattle.sc_meaning.specs.Instances.{with_key}
use Rattle.sc_meaning.specs.Local.{Made, make_one, make, unless_many, ran}
use Rattle.sc_meaning.specs.Outcomes.{Outcome, Done, Stopped, after, then_do, leaving}
use Rattle.sc_meaning.specs.Values.{◌>>=◌}

pub make-append : (choice : Choice) (x y : List Event) (m : Made) → make choice (x ++ y) m ≡ make choice y (make choice x m)
make-append choice [] y m = refl
make-append choice (e ∷ x) y m = make-append choice x y (make_one choice e m)

-- ---- the keys only grow in number

abbrev pub many : Made → Bool
many m = nat_lt 65536 (length m.keys)

key_by : (b : Bool) (keys : List Key) (key : Key) → length keys ≤ length (cond b keys (keys ++ key ∷ []))
key_by true keys key = omega arith
key_by false keys key = let e : length (keys ++ key ∷ []) ≡ length keys + 1 = length-append keys (key ∷ []) in omega arith

key_more : (keys : List Key) (key : Key) → length keys ≤ length (with_key keys key)
key_more keys key = key_by (list_any (same_key key) keys) keys key

one_more : (choice : Choice) (e : Event) (m : Made) → length m.keys ≤ length (make_one choice e m).keys
one_more choice (Fresh class n) m = omega arith
one_more choice (Apply gate) m = omega arith
one_more choice (Enter key wires) m = key_more m.keys key
one_more choice (Return key) m = omega arith

make_more : (choice : Choice) (x : List Event) (m : Made) → length m.keys ≤ length (make choice x m).keys
make_more choice [] m = omega arith
make_more choice (e ∷ x) m =
    let one : length m.keys ≤ length (make_one choice e m).keys = one_more choice e m in
    let rest : length (make_one choice e m).keys ≤ length (make choice x (make_one choice e m)).keys = make_more choice x (make_one choice e m) in
    omega arith

lt_up : (a b : ℕ) → a ≤ b → nat_lt 65536 a ≡ true → nat_lt 65536 b ≡ true
lt_up a b h t = grind (arith, nat_tests)

many_stays : (choice : Choice) (y : List Event) (m : Made) → many m ≡ true → many (make choice y m) ≡ true
many_stays choice y m h = lt_up (length m.keys) (length (make choice y m).keys) (make_more choice y m) h

-- ---- parts one after another

abbrev unless : {A : Type 0} → Bool → Result A ElabFault → Result A ElabFault
unless b r = cond b (Err TooManyInstances) r

twice : {A : Type 0} (b c : Bool) (r : Result A ElabFault) → (b ≡ true → c ≡ true) → unless c r ≡ unless b (unless c r)
twice true true r h = refl
twice true false r h = absurd (let impossible : false ≡ true = h refl in cc)
twice false c r h = refl

pub ran_after : {A : Type 0} (choice : Choice) (m : Made) (x : List Event) (o : Outcome A) → ran choice m (after x o) ≡ unless_many (make choice x m) (ran choice (make choice x m) o)
ran_after choice m x (Done y a) =
    ap (λ (n : Made). unless (many n) (Ok (a, n))) (make-append choice x y m)
    ∙ twice (many (make choice x m)) (many (make choice y (make choice x m))) (Ok (a, make choice y (make choice x m))) (many_stays choice y (make choice x m))
ran_after choice m x (Stopped y f) =
    ap (λ (n : Made). unless (many n) (Err f)) (make-append choice x y m)
    ∙ twice (many (make choice x m)) (many (make choice y (make choice x m))) (Err f) (many_stays choice y (make choice x m))

then_by : {A B : Type 0} (b : Bool) (r : Result A ElabFault) (k : A → Result B ElabFault) (v : A) → unless b (k v) ≡ (unless b (Ok v) >>= k)
then_by true r k v = refl
then_by false r k v = refl

stop_by : {A B : Type 0} (b : Bool) (f : ElabFault) (k : A → Result B ElabFault) → unless b (Err f) ≡ (unless b (Err f) >>= k)
stop_by true f k = refl
stop_by false f k = refl

-- one part, and then the rest from where it ends
pub ran_then : {A B : Type 0} (choice : Choice) (m : Made) (o : Outcome A) (go : A → Outcome B) → ran choice m (then_do o go) ≡ (ran choice m o >>= λ p. ran choice p.1 (go p.0))
ran_then {A} {B} choice m (Done x a) go =
    let next : A × Made → Result (B × Made) ElabFault = λ p. ran choice p.1 (go p.0) in
    ran_after choice m x (go a)
    ∙ then_by (many (make choice x m)) (Ok (a, make choice x m)) next (a, make choice x m)
ran_then {A} {B} choice m (Stopped x f) go =
    let next : A × Made → Result (B × Made) ElabFault = λ p. ran choice p.1 (go p.0) in
    stop_by (many (make choice x m)) f next

-- a part that is done, and the rest
pub ran_next : {A B : Type 0} (choice : Choice) (m m' : Made) (o : Outcome A) (s : A) (go : A → Outcome B) → ran choice m o ≡ Ok (s, m') → ran choice m (then_do o go) ≡ ran choice m' (go s)
ran_next {A} {B} choice m m' o s go h =
    let next : A × Made → Result (B × Made) ElabFault = λ p. ran choice p.1 (go p.0) in
    ran_then choice m o go ∙ ap (λ (r : Result (A × Made) ElabFault). r >>= next) h

-- a part that is refused
pub ran_stop : {A B : Type 0} (choice : Choice) (m : Made) (o : Outcome A) (f : ElabFault) (go : A → Outcome B) → ran choice m o ≡ Err f → ran choice m (then_do o go) ≡ Err f
ran_stop {A} {B} choice m o f go h =
    let next : A × Made → Result (B × Made) ElabFault = λ p. ran choice p.1 (go p.0) in
    ran_then choice m o go ∙ ap (λ (r : Result (A × Made) ElabFault). r >>= next) h

-- what is done without an event, and what is refused so
pub ran_done : {A : Type 0} (choice : Choice) (m : Made) (a : A) → many m ≡ false → ran choice m (Done [] a) ≡ Ok (a, m)
ran_done choice m a h = ap (λ (b : Bool). unless b (Ok (a, m))) h

pub ran_fault : {A : Type 0} (choice : Choice) (m : Made) (f : ElabFault) → many m ≡ false → ran {A = A} choice m (Stopped [] f) ≡ Err f
ran_fault {A} choice m f h = let r : Result (A × Made) ElabFault = Err f in ap (λ (b : Bool). unless b r) h

-- what is done has made few keys
pub few_by : {A : Type 0} (b : Bool) (r : Result A ElabFault) (v : A) → unless b r ≡ Ok v → (b ≡ false) × (r ≡ Ok v)
few_by true r v h = absurd cc
few_by false r v h = (refl, h)

-- ---- equations of outcomes

pub after_none : {A : Type 0} (o : Outcome A) → after [] o ≡ o
after_none (Done x a) = refl
after_none (Stopped x f) = refl

pub leaving_is : {A B : Type 0} (f : A → B) (o : Outcome A) → leaving f o ≡ then_do o (λ a. Done [] (f a))
leaving_is f (Done x a) = ap (λ (y : List Event). Done y (f a)) (sym (append-nil x))
leaving_is f (Stopped x g) = refl

after_after : {A : Type 0} (x y : List Event) (o : Outcome A) → after x (after y o) ≡ after (x ++ y) o
after_after x y (Done z a) = let e : x ++ (y ++ z) ≡ (x ++ y) ++ z = simp append_assoc in ap (λ (w : List Event). Done w a) e
after_after x y (Stopped z f) = let e : x ++ (y ++ z) ≡ (x ++ y) ++ z = simp append_assoc in ap (λ (w : List Event). Stopped w f) e

then_after : {A B : Type 0} (x : List Event) (o : Outcome A) (go : A → Outcome B) → then_do (after x o) go ≡ after x (then_do o go)
then_after x (Done y a) go = sym (after_after x y (go a))
then_after x (Stopped y f) go = refl

pub then_then : {A B C : Type 0} (o : Outcome A) (f : A → Outcome B) (g : B → Outcome C) → then_do (then_do o f) g ≡ then_do o (λ a. then_do (f a) g)
then_then (Done x a) f g = then_after x (f a) g
then_then (Stopped x h) f g = refl

pub then_none : {A : Type 0} (o : Outcome A) → then_do o (λ a. Done [] a) ≡ o
then_none (Done x a) = ap (λ (y : List Event). Done y a) (append-nil x)
then_none (Stopped x f) = refl

-- one event
pub ran_one : {A : Type 0} (choice : Choice) (e : Event) (m : Made) (a : A) → many (make_one choice e m) ≡ false → ran choice m (Done (e ∷ []) a) ≡ Ok (a, make_one choice e m)
ran_one choice e m a h = ap (λ (b : Bool). unless b (Ok (a, make_one choice e m))) h
