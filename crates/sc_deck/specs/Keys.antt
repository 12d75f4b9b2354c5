-- Keys of instances, and the parameter wires of a key.
use Rattle.std.specs.Prelude.{◌≤◌, FitsSigned, Bool, false, ◌&&◌, nat_eq, List, [], ◌∷◌, replicate, flat_map, fold, All, codes}
use Rattle.std.specs.Int.{w64}
use Rattle.std.specs.Ordering.{int_eq}
use Rattle.std.specs.Cmp.Lexicographic.{pointwise}
use Rattle.sc_base.specs.declared.names.Class.{Class}
use Rattle.sc_gate.specs.Wires.{same_class}
use Rattle.sc_gate.specs.Numbers.{Numbers, no_wires, with_more}
use Rattle.sc_deck.specs.declared.key.Arg.{Arg}
use Rattle.sc_deck.specs.declared.key.Arg.TheVariants.{Int, Double, One, Many}
use Rattle.sc_deck.specs.declared.key.Key.{Key}

abbrev pub same_arg : Arg → Arg → Bool
same_arg (Int n) (Int m) = int_eq n m
same_arg (Double x) (Double y) = int_eq x.0 y.0
same_arg (One c) (One d) = same_class c d
same_arg (Many c n) (Many d m) = same_class c d && nat_eq n m
same_arg _ _ = false

-- the same name and the same arguments
abbrev pub same_key : Key → Key → Bool
same_key a b = pointwise nat_eq a.name b.name && pointwise same_arg a.args b.args

-- the classes of the wires that an argument stands for
abbrev pub arg_classes : Arg → List Class
arg_classes (Int n) = []
arg_classes (Double x) = []
arg_classes (One class) = class ∷ []
arg_classes (Many class n) = replicate n class

-- the classes of the parameter wires, in order of parameters
abbrev pub param_classes : Key → List Class
param_classes key = flat_map arg_classes key.args

-- with the wires of one more argument
abbrev pub with_arg : Numbers → Arg → Numbers
with_arg numbers (Int n) = numbers
with_arg numbers (Double x) = numbers
with_arg numbers (One class) = with_more class 1 numbers
with_arg numbers (Many class n) = with_more class n numbers

-- how many parameter wires of each class a key has
abbrev pub params_of : Key → Numbers
params_of key = fold with_arg no_wires key.args

-- an array has at least one wire
abbrev pub HasLength : Arg → Type 0
HasLength (Int n) = Unit {0}
HasLength (Double x) = Unit {0}
HasLength (One class) = Unit {0}
HasLength (Many class n) = 1 ≤ n

abbrev pub HasLengths : Key → Type 0
HasLengths key = All HasLength key.args

-- an `int` or a `double` is in range
abbrev pub ArgInRange : Arg → Type 0
ArgInRange (Int n) = FitsSigned w64 n
ArgInRange (Double x) = FitsSigned w64 x.0
ArgInRange (One class) = Unit {0}
ArgInRange (Many class n) = Unit {0}

-- main without arguments
abbrev pub main_key : Key
main_key = record { name = codes "main"; args = [] }
