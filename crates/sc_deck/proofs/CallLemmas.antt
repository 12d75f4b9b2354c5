-- The classes of a call's wires against those of parameters.
use Rattle.std.proofs.Common.{◌≡◌, ◌≢◌, ℕ, ◌+◌, ◌<◌, ◌≤◌, List, [], ◌∷◌, ◌++◌, map, length, take, drop, replicate, get_or, sym, ap, subst, ◌∙◌, arith, length-append, length-take-le, append_assoc, append-nil}
use Rattle.std.specs.Prelude.{flat_map, All}
use Rattle.std.proofs.lemmas.List.Elements.{All-push}
use Rattle.std.proofs.lemmas.List.{take_more, take-map, length-map, length-replicate, get_or-map, get_or-replicate, take-append-le, take-append-drop, append_cancel_left, map-append, nil_from_length}
use Rattle.std.proofs.lemmas.Grind.{flat_map-append}
use Rattle.std.proofs.Math.Seq.{take-length}
use Rattle.sc_base.specs.declared.names.Class.{Class}
use Rattle.sc_gate.specs.declared.gate.Wire.{Wire}
use Rattle.sc_gate.specs.Gates.{class_of}
use Rattle.sc_deck.specs.declared.key.Arg.{Arg}
use Rattle.sc_deck.specs.Keys.{arg_classes, ArgInRange}

-- arguments in range, one argument more
pub ranges_more : (args : List Arg) (i : ℕ) (d : Arg) → i < length args → All ArgInRange (take i args) → ArgInRange (get_or args i d) → All ArgInRange (take (i + 1) args)
ranges_more args i d below so_far here = rw (take_more args i d below) (All-push ArgInRange (take i args) (get_or args i d) so_far here)

pub ranges_end : (args : List Arg) (i : ℕ) → i ≡ length args → All ArgInRange (take i args) → All ArgInRange args
ranges_end args i all so_far = subst (All ArgInRange) (ap (λ (k : ℕ). take k args) all ∙ take-length args) so_far

-- a wire of a list whose classes are all one
pub class_at : (wires : List Wire) (class : Class) (i : ℕ) (d : Wire) → i < length wires → map class_of wires ≡ replicate (length wires) class → (get_or wires i d).class ≡ class
class_at wires class i d below all =
    sym (get_or-map class_of wires i d class below) ∙ ap (λ (cs : List Class). get_or cs i class) all ∙ get_or-replicate (length wires) i class class below

-- too few wires
pub few_wires : (wires : List Wire) (class : Class) (n : ℕ) (rest : List Class) → length wires < n → map class_of wires ≢ replicate n class ++ rest
few_wires wires class n rest few e =
    let h : length wires ≡ n + length rest = sym (length-map wires class_of) ∙ ap length e ∙ length-append (replicate n class) rest ∙ ap (λ (k : ℕ). k + length rest) (length-replicate n class) in
    omega arith

-- the front of the wires has the classes that begin those of all
pub front_classes : (wires : List Wire) (class : Class) (n : ℕ) (rest : List Class) → map class_of wires ≡ replicate n class ++ rest → map class_of (take n wires) ≡ replicate n class
front_classes wires class n rest e =
    sym (take-map class_of n wires) ∙ ap (take n) e ∙ take-append-le n (replicate n class) rest (let h = length-replicate n class in omega arith)
    ∙ ap (λ (k : ℕ). take k (replicate n class)) (sym (length-replicate n class)) ∙ take-length (replicate n class)

-- one more argument at the front of the wires that are left
pub args_more : (args : List Arg) (i : ℕ) (d : Arg) (wires rest : List Wire) (n : ℕ) → i < length args → map class_of wires ≡ flat_map arg_classes (take i args) ++ map class_of rest → map class_of (take n rest) ≡ arg_classes (get_or args i d) → map class_of wires ≡ flat_map arg_classes (take (i + 1) args) ++ map class_of (drop n rest)
args_more args i d wires rest n below so_far front =
    let cut : map class_of rest ≡ map class_of (take n rest) ++ map class_of (drop n rest) = ap (map class_of) (sym (take-append-drop n rest)) ∙ map-append class_of (take n rest) (drop n rest) in
    let one : flat_map arg_classes (take (i + 1) args) ≡ flat_map arg_classes (take i args) ++ arg_classes (get_or args i d) =
    ap (flat_map arg_classes) (take_more args i d below) ∙ flat_map-append arg_classes (take i args) (get_or args i d ∷ []) ∙ ap (λ (cs : List Class). flat_map arg_classes (take i args) ++ cs) (append-nil (arg_classes (get_or args i d))) in
    so_far ∙ ap (λ (cs : List Class). flat_map arg_classes (take i args) ++ cs) (cut ∙ ap (λ (cs : List Class). cs ++ map class_of (drop n rest)) front)
    ∙ sym (append_assoc (flat_map arg_classes (take i args)) (arg_classes (get_or args i d)) (map class_of (drop n rest)))
    ∙ ap (λ (cs : List Class). cs ++ map class_of (drop n rest)) (sym one)

-- the classes of the arguments from one on
pub args_cut : (args : List Arg) (i : ℕ) (d : Arg) → i < length args → flat_map arg_classes args ≡ flat_map arg_classes (take i args) ++ (arg_classes (get_or args i d) ++ flat_map arg_classes (drop (i + 1) args))
args_cut args i d below =
    ap (flat_map arg_classes) (sym (take-append-drop (i + 1) args)) ∙ flat_map-append arg_classes (take (i + 1) args) (drop (i + 1) args)
    ∙ ap (λ (cs : List Class). cs ++ flat_map arg_classes (drop (i + 1) args))
    (ap (flat_map arg_classes) (take_more args i d below) ∙ flat_map-append arg_classes (take i args) (get_or args i d ∷ []) ∙ ap (λ (cs : List Class). flat_map arg_classes (take i args) ++ cs) (append-nil (arg_classes (get_or args i d))))
    ∙ append_assoc (flat_map arg_classes (take i args)) (arg_classes (get_or args i d)) (flat_map arg_classes (drop (i + 1) args))

-- where an argument finds no wires, the classes differ
pub args_differ : (args : List Arg) (i : ℕ) (d : Arg) (wires rest : List Wire) → i < length args → map class_of wires ≡ flat_map arg_classes (take i args) ++ map class_of rest → ((more : List Class) → map class_of rest ≢ arg_classes (get_or args i d) ++ more) → map class_of wires ≢ flat_map arg_classes args
args_differ args i d wires rest below so_far none e =
    none (flat_map arg_classes (drop (i + 1) args)) (append_cancel_left (flat_map arg_classes (take i args)) (map class_of rest) (arg_classes (get_or args i d) ++ flat_map arg_classes (drop (i + 1) args)) (sym so_far ∙ e ∙ args_cut args i d below))

-- after the last argument no wire is left exactly where the classes are equal
pub args_end : (args : List Arg) (i : ℕ) (wires rest : List Wire) → i ≡ length args → map class_of wires ≡ flat_map arg_classes (take i args) ++ map class_of rest → (length rest ≡ 0 → map class_of wires ≡ flat_map arg_classes args) × (map class_of wires ≡ flat_map arg_classes args → length rest ≡ 0)
args_end args i wires rest all so_far =
    let whole : map class_of wires ≡ flat_map arg_classes args ++ map class_of rest = so_far ∙ ap (λ (xs : List Arg). flat_map arg_classes xs ++ map class_of rest) (ap (λ (k : ℕ). take k args) all ∙ take-length args) in (
      (λ e. whole ∙ ap (λ (ws : List Wire). flat_map arg_classes args ++ map class_of ws) (nil_from_length rest e) ∙ append-nil (flat_map arg_classes args)),
      (λ e. sym (length-map rest class_of) ∙ ap length (append_cancel_left (flat_map arg_classes args) (map class_of rest) [] (sym whole ∙ e ∙ sym (append-nil (flat_map arg_classes args))))),
    )

-- wires whose classes are n times one class are n wires
pub all_one : (wires : List Wire) (class : Class) (n : ℕ) → map class_of wires ≡ replicate n class → map class_of wires ≡ replicate (length wires) class
all_one wires class n e =
    let h : n ≡ length wires = sym (length-replicate n class) ∙ ap length (sym e) ∙ length-map wires class_of in
    e ∙ ap (λ (k : ℕ). replicate k class) h

pub front_all : (wires : List Wire) (class : Class) (n : ℕ) → n ≤ length wires → map class_of (take n wires) ≡ replicate (length (take n wires)) class → map class_of (take n wires) ≡ replicate n class
front_all wires class n within e = e ∙ ap (λ (k : ℕ). replicate k class) (length-take-le n wires within)
