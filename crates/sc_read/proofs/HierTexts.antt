-- The hierarchical text of a list of modules is read line by line as this list, and what is read so is the text of its modules.
use Rattle.std.proofs.Common.{◌≡◌, ◌≢◌, ℕ, ◌+◌, ◌-◌, ◌<◌, ◌≤◌, ◌^◌, Bool, true, false, ◌||◌, true≢false, List, [], ◌∷◌, ◌++◌, map, fold, length, get_or, Some, None, All, AllPairs, refl, sym, ap, ◌∙◌, subst, arith, inl, inr, ◌⊎◌, append_assoc, append-nil, length-append}
use Rattle.std.specs.Prelude.{decimal, codes, flat_map}
use Rattle.std.specs.List.{AllByRecursion, list_any, join_with_byte}
use Rattle.std.specs.Option.{option_map}
use Rattle.std.specs.Str.Parse.{digits_value}
use Rattle.std.proofs.Math.ListN.{get_or-append}
use Rattle.std.proofs.Math.Seq.{get_or-append_seam}
use Rattle.std.proofs.lemmas.List.{get_or-map, length-map}
use Rattle.std.proofs.lemmas.List.Concat.{flat_map-append}
use Rattle.std.proofs.lemmas.List.Elements.{recursion_from_All}
use Rattle.std.proofs.lemmas.Option.{slice_get_cases}
use Rattle.sc_base.specs.Lines.{IsLine, joined, GoThrough}
use Rattle.sc_base.specs.NameTexts.{IsNameText, begins_name, continues_name}
use Rattle.sc_base.specs.declared.names.Class.{Class}
use Rattle.sc_base.specs.declared.names.Class.TheVariants.{Q, C}
use Rattle.sc_base.proofs.FeedLemmas.{NoFeed, no_feed_nil, no_feed_more, no_feed-append, no_feed_from_test, no_feed_decimal, no_feed_signed, no_feed_fixed, line_from, number_line-IsLine}
use Rattle.sc_base.proofs.NumeralLemmas.{whole_decimal, decimal_whole, decimal_value}
use Rattle.sc_gate.specs.declared.gate.Wire.{Wire}
use Rattle.sc_gate.specs.Lines.{class_letter, wire_text, after_commas, gate_line, number_line}
use Rattle.sc_gate.specs.Numbers.{Numbers, no_wires, with_more, both}
use Rattle.sc_gate.specs.Texts.{IsNumbered}
use Rattle.sc_gate.proofs.LineLemmas.{joined_by_commas}
use Rattle.sc_gate.proofs.TextLemmas.{gate_line-IsLine}
use Rattle.sc_deck.specs.declared.item.Item.{Item}
use Rattle.sc_deck.specs.declared.item.Item.TheVariants as item
use Rattle.sc_deck.specs.declared.key.Arg.{Arg}
use Rattle.sc_deck.specs.declared.key.Arg.TheVariants.{Int, Double, One, Many}
use Rattle.sc_deck.specs.declared.key.Key.{Key}
use Rattle.sc_deck.specs.Bodies.{after_items, wires_of, ItemsFit}
use Rattle.sc_deck.specs.Decks.{CallsFit, CallEarlier, ItemCallFits, IsNewKey, IsDeck, IsWhole}
use Rattle.sc_deck.specs.Hierarchical.{arg_text, signature, wires_text, call_line, fresh_word, repeat_line, item_line, modules_text, hier_text, hier, have_turns, AreProper, IsWithinLimits, IsHier, IsSound}
use Rattle.sc_deck.specs.Items.{after_item, ItemFits, ItemInRange}
use Rattle.sc_deck.specs.Keys.{params_of, with_arg, HasLength, HasLengths, ArgInRange, main_key}
use Rattle.sc_deck.specs.Modules.{Module, key_of, body_of, from_earlier, heights_of, height_over}
use Rattle.sc_deck.specs.Turns.{has_turns}
use Rattle.sc_deck.proofs.BodyLemmas.{after_items-push}
use Rattle.sc_deck.proofs.EarlierLaws.{from_earlier-extends}
use Rattle.sc_deck.proofs.TextLaws.{All-front, IsProper-sound, IsWithinLimits-sound, IsHier-sound}
use Rattle.sc_read.specs.HierLines.{ArgText, ArgTexts, IsFormedArg, IsHeading, ItemText}
use Rattle.sc_read.specs.HierReads.{IsHierText}
use Rattle.sc_read.specs.HierStages.{Stage, Title, version_of, Between, Within, Over, Limit, Instances, Wires, Items, Depth, IsTitle, BeginsModule, InPlace, Passes, Goes, MayEnd}
use Rattle.sc_read.proofs.HierItems.{there_numbered, known_small}
use Rattle.sc_read.proofs.HierItemSteps.{called_join}
use Rattle.sc_read.proofs.HierLoops.{go_then, end_is_line, no_limit_between, no_limit_over, title_is_line}
use Rattle.sc_read.proofs.HierModules.{more_grows, items_grow, args_grow, same_key}
use Rattle.sc_read.proofs.HierOneWay.{gate_has_line, few_wires, none_at_next, one_hier_text}

-- THE LINES OF MODULES
abbrev heading_line : ℕ → Key → List ℕ
heading_line number key = codes "module " ++ decimal number ++ codes " " ++ signature key ++ codes "\n"

abbrev lines_of : ℕ → List Module → List (List ℕ)
lines_of number [] = []
lines_of number (m ∷ ms) = heading_line number m.key ∷ (map item_line m.items ++ codes "end\n" ∷ lines_of (number + 1) ms)

joined_items : (items : List Item) → joined (map item_line items) ≡ flat_map item_line items
joined_items [] = refl
joined_items (i ∷ items) = ap (λ (z : List ℕ). item_line i ++ z) (joined_items items)

three_parts : (a b c d : List ℕ) → (a ++ b ++ c) ++ d ≡ a ++ (b ++ (c ++ d))
three_parts a b c d = append_assoc (a ++ b) c d ∙ append_assoc a b (c ++ d)

joined_modules : (number : ℕ) (ms : List Module) → joined (lines_of number ms) ≡ modules_text number ms
joined_modules number [] = refl
joined_modules number (m ∷ ms) =
    let rest : List (List ℕ) = lines_of (number + 1) ms in
    ap (λ (z : List ℕ). heading_line number m.key ++ z) (flat_map-append (λ (line : List ℕ). line) (map item_line m.items) (codes "end\n" ∷ rest)
    ∙ (ap (λ (z : List ℕ). z ++ (codes "end\n" ++ joined rest)) (joined_items m.items)
    ∙ ap (λ (z : List ℕ). flat_map item_line m.items ++ (codes "end\n" ++ z)) (joined_modules (number + 1) ms)))
    ∙ sym (three_parts (heading_line number m.key) (flat_map item_line m.items) (codes "end\n") (modules_text (number + 1) ms))

-- EACH IS ONE LINE
letter_no_feed : (class : Class) → class_letter class ≢ 10
letter_no_feed Q e = omega (arith, e)
letter_no_feed C e = omega (arith, e)

no_feed_commas : (ws : List Wire) → AllByRecursion IsNumbered ws → NoFeed (after_commas (map wire_text ws))
no_feed_commas [] all = no_feed_nil
no_feed_commas (w ∷ ws) all =
    no_feed_more 44 (wire_text w ++ after_commas (map wire_text ws)) (λ e. omega (arith, e))
    (no_feed-append (wire_text w) (after_commas (map wire_text ws)) (no_feed_more (class_letter w.class) (decimal w.number) (letter_no_feed w.class) (no_feed_decimal w.number (omega (arith, all.0))))
    (no_feed_commas ws all.1))

no_feed_wires : (ws : List Wire) → AllByRecursion IsNumbered ws → NoFeed (wires_text ws)
no_feed_wires [] all = no_feed_nil
no_feed_wires (w ∷ ws) all =
    subst (λ (z : List ℕ). NoFeed (32 ∷ z)) (sym (joined_by_commas (wire_text w) (map wire_text ws)))
    (no_feed_more 32 (wire_text w ++ after_commas (map wire_text ws)) (λ e. omega (arith, e))
    (no_feed-append (wire_text w) (after_commas (map wire_text ws)) (no_feed_more (class_letter w.class) (decimal w.number) (letter_no_feed w.class) (no_feed_decimal w.number (omega (arith, all.0))))
    (no_feed_commas ws all.1)))

call_is_line : (callee : ℕ) (ws : List Wire) → callee < 2 ^ 64 → AllByRecursion IsNumbered ws → IsLine (call_line callee ws)
call_is_line callee ws small all = line_from (codes "call " ++ decimal callee ++ wires_text ws)
    (no_feed-append (codes "call " ++ decimal callee) (wires_text ws) (no_feed-append (codes "call ") (decimal callee) (no_feed_from_test (codes "call ") refl) (no_feed_decimal callee small)) (no_feed_wires ws all))

repeat_is_line : (n : ℕ) (line : List ℕ) → n < 2 ^ 64 → IsLine line → IsLine (repeat_line n line)
repeat_is_line n line small is = record {
  front = codes "repeat " ++ decimal n ++ codes " " ++ is.front;
  no_feed = no_feed-append (codes "repeat " ++ decimal n ++ codes " ") is.front
      (no_feed-append (codes "repeat " ++ decimal n) (codes " ") (no_feed-append (codes "repeat ") (decimal n) (no_feed_from_test (codes "repeat ") refl) (no_feed_decimal n small))
      (no_feed_from_test (codes " ") refl)) is.no_feed;
  line_is = ap (λ (z : List ℕ). codes "repeat " ++ decimal n ++ codes " " ++ z) is.line_is ∙ sym (append_assoc (codes "repeat " ++ decimal n ++ codes " ") is.front (10 ∷ []));
}

word_no_feed : (class : Class) → NoFeed (fresh_word class)
word_no_feed Q = no_feed_from_test (codes "qbit") refl
word_no_feed C = no_feed_from_test (codes "cbit") refl

fresh_small : (class : Class) (n : ℕ) (wires : Numbers) → both (after_item wires (item.Fresh class n)) ≤ 65536 → n ≤ 65536
fresh_small class n wires narrow = omega (arith, narrow, more_grows class n wires)

item_is_line : (modules : List Module) (wires : Numbers) (i : Item) → length modules ≤ 65536 → both wires ≤ 65536 → both (after_item wires i) ≤ 65536 →
    ItemFits wires i → ItemInRange i → ItemCallFits modules i → IsLine (item_line i)
item_is_line modules wires (item.Fresh class n) few narrow after fits range known = number_line-IsLine (fresh_word class) n (omega (arith, fresh_small class n wires after)) (word_no_feed class)
item_is_line modules wires (item.Gate g) few narrow after fits range known = gate_line-IsLine g (gate_has_line wires g narrow fits range)
item_is_line modules wires (item.Call callee ws) few narrow after fits range known =
    call_is_line callee ws (known_small modules callee ws few known) (there_numbered wires.qubits wires.cbits ws (omega (arith, narrow)) (omega (arith, narrow)) fits.there)
item_is_line modules wires (item.Gates g n) few narrow after fits range known =
    repeat_is_line n (gate_line g) range.1 (gate_line-IsLine g (gate_has_line wires g narrow fits.0 range.0))
item_is_line modules wires (item.Calls callee ws n) few narrow after fits range known =
    repeat_is_line n (call_line callee ws) range
    (call_is_line callee ws (known_small modules callee ws few known) (there_numbered wires.qubits wires.cbits ws (omega (arith, narrow)) (omega (arith, narrow)) fits.0.there))

name_no_feed : (name : List ℕ) → IsNameText name → NoFeed name
name_no_feed [] named = absurd named
name_no_feed (byte ∷ bytes) named =
    no_feed_more byte bytes (λ same. true≢false (sym named.0 ∙ ap begins_name same)) (λ k d within same. true≢false (sym (named.1 k d within) ∙ ap continues_name same))

arg_no_feed : (a : Arg) (wires : Numbers) → both (with_arg wires a) ≤ 65536 → ArgInRange a → NoFeed (arg_text a)
arg_no_feed (Int n) wires narrow range = no_feed_signed n range
arg_no_feed (Double x) wires narrow range = no_feed_fixed x.0 range
arg_no_feed (One class) wires narrow range = no_feed_more (class_letter class) [] (letter_no_feed class) no_feed_nil
arg_no_feed (Many class n) wires narrow range =
    no_feed_more (class_letter class) (codes "[" ++ decimal n ++ codes "]") (letter_no_feed class)
    (no_feed-append (codes "[" ++ decimal n) (codes "]") (no_feed-append (codes "[") (decimal n) (no_feed_from_test (codes "[") refl) (no_feed_decimal n (omega (arith, narrow, more_grows class n wires))))
    (no_feed_from_test (codes "]") refl))

args_after_no_feed : (args : List Arg) (wires : Numbers) → both (fold with_arg wires args) ≤ 65536 → AllByRecursion ArgInRange args → NoFeed (after_commas (map arg_text args))
args_after_no_feed [] wires narrow range = no_feed_nil
args_after_no_feed (a ∷ args) wires narrow range =
    no_feed_more 44 (arg_text a ++ after_commas (map arg_text args)) (λ e. omega (arith, e))
    (no_feed-append (arg_text a) (after_commas (map arg_text args)) (arg_no_feed a wires (omega (arith, narrow, args_grow args (with_arg wires a))) range.0)
    (args_after_no_feed args (with_arg wires a) narrow range.1))

args_no_feed : (args : List Arg) (wires : Numbers) → both (fold with_arg wires args) ≤ 65536 → AllByRecursion ArgInRange args → NoFeed (join_with_byte 44 (map arg_text args))
args_no_feed [] wires narrow range = no_feed_nil
args_no_feed (a ∷ args) wires narrow range =
    subst NoFeed (sym (joined_by_commas (arg_text a) (map arg_text args)))
    (no_feed-append (arg_text a) (after_commas (map arg_text args)) (arg_no_feed a wires (omega (arith, narrow, args_grow args (with_arg wires a))) range.0)
    (args_after_no_feed args (with_arg wires a) narrow range.1))

heading_is_line : (number : ℕ) (key : Key) → number < 2 ^ 64 → IsNameText key.name → both (params_of key) ≤ 65536 → AllByRecursion ArgInRange key.args → IsLine (heading_line number key)
heading_is_line number key small named narrow range = line_from (codes "module " ++ decimal number ++ codes " " ++ signature key)
    (no_feed-append (codes "module " ++ decimal number ++ codes " ") (signature key)
    (no_feed-append (codes "module " ++ decimal number) (codes " ") (no_feed-append (codes "module ") (decimal number) (no_feed_from_test (codes "module ") refl) (no_feed_decimal number small))
    (no_feed_from_test (codes " ") refl))
    (no_feed-append (key.name ++ codes "(" ++ join_with_byte 44 (map arg_text key.args)) (codes ")")
    (no_feed-append (key.name ++ codes "(") (join_with_byte 44 (map arg_text key.args))
    (no_feed-append key.name (codes "(") (name_no_feed key.name named) (no_feed_from_test (codes "(") refl)) (args_no_feed key.args no_wires narrow range))
    (no_feed_from_test (codes ")") refl)))

-- ITEMS GO ON
-- what a module has to be behind these modules
record IsFitting (done : List Module) (m : Module) : Type 0 where
  room : length done < 65536
  narrow : both (wires_of (body_of m)) ≤ 65536
  short : length m.items ≤ 1048576
  shallow : height_over (heights_of done) m ≤ 256

after_items-join : (wires : Numbers) (items more : List Item) → after_items wires (items ++ more) ≡ after_items (after_items wires items) more
after_items-join wires [] more = refl
after_items-join wires (i ∷ items) more = after_items-join (after_item wires i) items more

abbrev with_items : Key → List Item → Module
with_items key items = record { key = key; items = items }

front_narrow : (done : List Module) (key : Key) (front more : List Item) → IsFitting done (with_items key (front ++ more)) → both (after_items (params_of key) front) ≤ 65536
front_narrow done key front more p =
    omega (arith, p.narrow, ap both (after_items-join (params_of key) front more), items_grow more (after_items (params_of key) front))

no_limits : (turns : Bool) (done : List Module) (key : Key) (front more : List Item) → IsFitting done (with_items key (front ++ more)) →
    (limit : Limit) → Passes (Within turns done (with_items key front)) limit → ⊥
no_limits turns done key front more p Instances q = omega (arith, q, p.room)
no_limits turns done key front more p Wires q = omega (arith, q, front_narrow done key front more p)
no_limits turns done key front more p Items q = omega (arith, q, p.short, length-append front more)
no_limits turns done key front more p Depth q = omega (arith, q, p.shallow, called_join (heights_of done) front more)

first_false : (a b : Bool) → (a || b) ≡ false → (a ≡ false) × (b ≡ false)
first_false false b e = (refl, e)
first_false true b e = absurd (true≢false e)

fresh_text : (i : Item) (wires : Numbers) → both (after_item wires i) ≤ 65536 → ItemText i (item_line i)
fresh_text (item.Fresh class n) wires narrow = record {
  digits = decimal n;
  number_is = record {
    whole = decimal_whole n (omega (arith, fresh_small class n wires narrow));
    value = sym (decimal_value n (omega (arith, fresh_small class n wires narrow)));
  };
  line_is = refl;
}
fresh_text (item.Gate g) wires narrow = refl
fresh_text (item.Call callee ws) wires narrow = refl
fresh_text (item.Gates g n) wires narrow = refl
fresh_text (item.Calls callee ws n) wires narrow = refl

items_go : (turns : Bool) (done : List Module) (key : Key) (front items : List Item) → IsFitting done (with_items key (front ++ items)) → ItemsFit (after_items (params_of key) front) items →
    CallsFit done items → AllByRecursion ItemInRange items → ((turns ≡ false) → list_any has_turns items ≡ false) →
    GoThrough Goes (Within turns done (with_items key front)) (map item_line items) (Within turns done (with_items key (front ++ items)))
items_go turns done key front [] p fits calls range version = ap (λ (z : List Item). Within turns done (with_items key z)) (sym (append-nil front))
items_go turns done key front (i ∷ items) p fits calls range version =
    let again : IsFitting done (with_items key ((front ++ i ∷ []) ++ items)) = subst (λ (z : List Item). IsFitting done (with_items key z)) (sym (append_assoc front (i ∷ []) items)) p in
    let narrow : both (after_item (after_items (params_of key) front) i) ≤ 65536 =
    omega (arith, front_narrow done key (front ++ i ∷ []) items again, ap both (after_items-push (params_of key) front i)) in (
      Within turns done (with_items key (front ++ i ∷ [])),
      item_is_line done (after_items (params_of key) front) i (omega (arith, p.room)) (front_narrow done key front (i ∷ items) p) narrow fits.0 range.0 calls.0,
      record {
        in_place = inl (record {
          item = i;
          item_is = record { fits = fits.0; in_range = range.0; call = calls.0; version = λ off. (first_false (has_turns i) (list_any has_turns items) (version off)).0 };
          line_is = fresh_text i (after_items (params_of key) front) narrow;
          next_is = refl;
        });
        within = no_limits turns done key (front ++ i ∷ []) items again;
      },
      subst (λ (z : List Item). GoThrough Goes (Within turns done (with_items key (front ++ i ∷ []))) (map item_line items) (Within turns done (with_items key z))) (append_assoc front (i ∷ []) items)
          (items_go turns done key (front ++ i ∷ []) items again (subst (λ (z : Numbers). ItemsFit z items) (sym (after_items-push (params_of key) front i)) fits.1) calls.1 range.1
          (λ off. (first_false (has_turns i) (list_any has_turns items) (version off)).1)),
    )

-- MODULES GO ON
record Stands (turns : Bool) (done : List Module) (m : Module) : Type 0 where
  new : IsNewKey done m.key
  named : IsNameText m.key.name
  args : All ArgInRange m.key.args
  lengths : HasLengths m.key
  fits : ItemsFit (params_of m.key) m.items
  in_range : All ItemInRange m.items
  calls : CallsFit done m.items
  limits : IsFitting done m
  version : (turns ≡ false) → list_any has_turns m.items ≡ false

abbrev AllStand : Bool → List Module → List Module → Type 0
AllStand turns done [] = Unit {0}
AllStand turns done (m ∷ ms) = Stands turns done m × AllStand turns (done ++ m ∷ []) ms

formed_args : (args : List Arg) → AllByRecursion ArgInRange args → AllByRecursion HasLength args → AllByRecursion IsFormedArg args
formed_args [] p q = tt
formed_args (a ∷ args) p q = (record { in_range = p.0; has_length = q.0 }, formed_args args p.1 q.1)

arg_texts : (args : List Arg) (wires : Numbers) → both (fold with_arg wires args) ≤ 65536 → ArgTexts args (map arg_text args)
arg_texts [] wires narrow = tt
arg_texts (Int n ∷ args) wires narrow = (refl, arg_texts args wires narrow)
arg_texts (Double x ∷ args) wires narrow = (refl, arg_texts args wires narrow)
arg_texts (One class ∷ args) wires narrow = (refl, arg_texts args (with_more class 1 wires) narrow)
arg_texts (Many class n ∷ args) wires narrow =
    let small : n ≤ 65536 = omega (arith, narrow, args_grow args (with_more class n wires), more_grows class n wires) in (
      record { digits = decimal n; length_is = record { whole = decimal_whole n (omega (arith, small)); value = sym (decimal_value n (omega (arith, small))) }; text_is = refl },
      arg_texts args (with_more class n wires) narrow,
    )

heading_goes : (turns : Bool) (done : List Module) (m : Module) → Stands turns done m → Goes (Between turns done) (heading_line (length done) m.key) (Within turns done (with_items m.key []))
heading_goes turns done m p = record {
  in_place = record {
    key = m.key;
    key_is = record {
      formed = record { name = p.named; args = formed_args m.key.args (recursion_from_All ArgInRange m.key.args p.args) (recursion_from_All HasLength m.key.args p.lengths) };
      new = p.new;
    };
    line_is = record {
      text = signature m.key;
      text_is = record { parts = map arg_text m.key.args; parts_are = arg_texts m.key.args no_wires (front_narrow done m.key [] m.items p.limits); text_is = refl };
      line_is = refl;
    };
    next_is = refl;
  };
  within = no_limits turns done m.key [] m.items p.limits;
}

last_is_main : (modules : List Module) → IsWhole modules → (x : Module) × (length modules - 1 < length modules) × (get_or modules (length modules - 1) x ≡ x) × (x.key ≡ main_key)
last_is_main modules whole = elim (slice_get_cases modules (length modules - 1)).1 [
  | inl at ↦ (at.0, at.1, at.3, same_key at.0.key main_key (sym (ap (option_map key_of) at.2) ∙ whole.main_last))
  | inr none ↦ absurd (let clash : None ≡ Some main_key = sym (ap (option_map key_of) none.1) ∙ whole.main_last in cc)
]

not_last_main : (done : List Module) (m n : Module) (ns : List Module) → IsWhole (done ++ m ∷ n ∷ ns) → AllPairs (λ k l. k ≢ l) (map key_of (done ++ m ∷ n ∷ ns)) → m.key ≢ main_key
not_last_main done m n ns whole distinct same =
    let all : List Module = done ++ m ∷ n ∷ ns in
    let last = last_is_main all whole in
    let long : length all ≡ length done + length (m ∷ n ∷ ns) = length-append done (m ∷ n ∷ ns) in
    let first : get_or (map key_of all) (length done) main_key ≡ m.key =
    get_or-map key_of all (length done) last.0 main_key (omega (arith, long)) ∙ ap key_of (get_or-append_seam done m (n ∷ ns) last.0) in
    let second : get_or (map key_of all) (length all - 1) main_key ≡ main_key = get_or-map key_of all (length all - 1) last.0 main_key last.1 ∙ (ap key_of last.2 ∙ last.3) in
    distinct (length done) (length all - 1) main_key (omega (arith, long)) (omega (arith, long, length-map all key_of)) (first ∙ (same ∙ sym second))

-- from the line that begins a module to its `end`
module_goes : (turns : Bool) (done : List Module) (m : Module) (lines : List (List ℕ)) (to : Stage) → Stands turns done m → GoThrough Goes (Within turns done m) lines to →
    GoThrough Goes (Between turns done) (heading_line (length done) m.key ∷ (map item_line m.items ++ lines)) to
module_goes turns done m lines to p go = (
  Within turns done (with_items m.key []),
  heading_is_line (length done) m.key (omega (arith, p.limits.room)) p.named (front_narrow done m.key [] m.items p.limits) (recursion_from_All ArgInRange m.key.args p.args),
  heading_goes turns done m p,
  go_then (Within turns done (with_items m.key [])) (map item_line m.items) (Within turns done m) lines to
      (items_go turns done m.key [] m.items p.limits p.fits p.calls (recursion_from_All ItemInRange m.items p.in_range) p.version) go,
)

modules_go : (turns : Bool) (done ms : List Module) → AllStand turns done ms → 0 < length ms → IsWhole (done ++ ms) → AllPairs (λ k l. k ≢ l) (map key_of (done ++ ms)) →
    GoThrough Goes (Between turns done) (lines_of (length done) ms) (Over (done ++ ms))
modules_go turns done [] all some whole distinct = absurd (omega (arith, some))
modules_go turns done (m ∷ []) all some whole distinct =
    module_goes turns done m (codes "end\n" ∷ []) (Over (done ++ m ∷ [])) all.0 (
      Over (done ++ m ∷ []),
      end_is_line,
      record { in_place = inr (inr (record { whole = whole; line_is = refl; next_is = refl })); within = no_limit_over (done ++ m ∷ []) },
      refl,
    )
modules_go turns done (m ∷ n ∷ ns) all some whole distinct =
    let same : (done ++ m ∷ []) ++ n ∷ ns ≡ done ++ m ∷ n ∷ ns = append_assoc done (m ∷ []) (n ∷ ns) in
    module_goes turns done m (codes "end\n" ∷ lines_of (length done + 1) (n ∷ ns)) (Over (done ++ m ∷ n ∷ ns)) all.0 (
      Between turns (done ++ m ∷ []),
      end_is_line,
      record { in_place = inr (inl (record { not_main = not_last_main done m n ns whole distinct; line_is = refl; next_is = refl })); within = no_limit_between turns (done ++ m ∷ []) },
      subst (λ (z : ℕ). GoThrough Goes (Between turns (done ++ m ∷ [])) (lines_of z (n ∷ ns)) (Over (done ++ m ∷ n ∷ ns))) (length-append done (m ∷ []))
          (subst (λ (z : List Module). GoThrough Goes (Between turns (done ++ m ∷ [])) (lines_of (length (done ++ m ∷ [])) (n ∷ ns)) (Over z)) same
          (modules_go turns (done ++ m ∷ []) (n ∷ ns) all.1 (omega arith) (subst IsWhole (sym same) whole)
          (subst (λ (z : List Module). AllPairs (λ k l. k ≢ l) (map key_of z)) (sym same) distinct))),
    )

-- EACH MODULE OF A PROPER LIST STANDS IN ITS PLACE
seam : (P : Module → Type 0) (done : List Module) (m : Module) (ms : List Module) → All P (done ++ m ∷ ms) → P m
seam P done m ms all = subst P (get_or-append_seam done m ms m) (all (length done) m (omega (arith, length-append done (m ∷ ms))))

any_seam : (p : Module → Bool) (done : List Module) (m : Module) (ms : List Module) → list_any p (done ++ m ∷ ms) ≡ false → p m ≡ false
any_seam p [] m ms none = (first_false (p m) (list_any p ms) none).0
any_seam p (n ∷ done) m ms none = any_seam p done m ms (first_false (p n) (list_any p (done ++ m ∷ ms)) none).1

calls_seam : (before done : List Module) (m : Module) (ms : List Module) → CallEarlier before (done ++ m ∷ ms) → CallsFit (before ++ done) m.items
calls_seam before [] m ms calls = subst (λ (z : List Module). CallsFit z m.items) (sym (append-nil before)) calls.0
calls_seam before (n ∷ done) m ms calls = subst (λ (z : List Module). CallsFit z m.items) (append_assoc before (n ∷ []) done) (calls_seam (before ++ n ∷ []) done m ms calls.1)

heights_join : (heights : List ℕ) (done ms : List Module) → from_earlier height_over heights (done ++ ms) ≡ from_earlier height_over (from_earlier height_over heights done) ms
heights_join heights [] ms = refl
heights_join heights (n ∷ done) ms = heights_join (heights ++ height_over heights n ∷ []) done ms

shallow_seam : (done : List Module) (m : Module) (ms : List Module) → All (λ height. height ≤ 256) (heights_of (done ++ m ∷ ms)) → height_over (heights_of done) m ≤ 256
shallow_seam done m ms all =
    let here : List ℕ = heights_of done ++ height_over (heights_of done) m ∷ [] in
    let rest = from_earlier-extends height_over here ms in
    let whole : heights_of (done ++ m ∷ ms) ≡ here ++ rest.0 = heights_join [] done (m ∷ ms) ∙ rest.1 in
    let front = All-front (λ (height : ℕ). height ≤ 256) here rest.0 (subst (λ (z : List ℕ). All (λ height. height ≤ 256) z) whole all) in
    subst (λ (z : ℕ). z ≤ 256) (get_or-append_seam (heights_of done) (height_over (heights_of done) m) [] 0)
    (front (length (heights_of done)) 0 (omega (arith, length-append (heights_of done) (height_over (heights_of done) m ∷ []))))

new_seam : (done : List Module) (m : Module) (ms : List Module) → AllPairs (λ k l. k ≢ l) (map key_of (done ++ m ∷ ms)) → IsNewKey done m.key
new_seam done m ms distinct = λ k d within same.
    let all : List Module = done ++ m ∷ ms in
    let long : length all ≡ length done + length (m ∷ ms) = length-append done (m ∷ ms) in
    let first : get_or (map key_of all) k m.key ≡ (get_or done k d).key =
    get_or-map key_of all k d m.key (omega (arith, long, within)) ∙ ap key_of (get_or-append done (m ∷ ms) d k within) in
    let second : get_or (map key_of all) (length done) m.key ≡ m.key = get_or-map key_of all (length done) m m.key (omega (arith, long)) ∙ ap key_of (get_or-append_seam done m ms m) in
    distinct k (length done) m.key within (omega (arith, long, length-map all key_of)) (first ∙ (same ∙ sym second))

stands : (turns : Bool) (done : List Module) (m : Module) (ms : List Module) → AreProper (done ++ m ∷ ms) → IsWithinLimits (done ++ m ∷ ms) →
    ((turns ≡ false) → have_turns (done ++ m ∷ ms) ≡ false) → Stands turns done m
stands turns done m ms rules limits version = record {
  new = new_seam done m ms rules.distinct;
  named = seam (λ n. IsNameText n.key.name) done m ms rules.names;
  args = seam (λ n. All ArgInRange n.key.args) done m ms rules.args;
  lengths = seam (λ n. HasLengths n.key) done m ms rules.lengths;
  fits = seam (λ n. ItemsFit (params_of n.key) n.items) done m ms rules.fits;
  in_range = seam (λ n. All ItemInRange n.items) done m ms rules.in_range;
  calls = calls_seam [] done m ms rules.calls;
  limits = record {
    room = omega (arith, limits.few, length-append done (m ∷ ms));
    narrow = seam (λ n. both (wires_of (body_of n)) ≤ 65536) done m ms limits.narrow;
    short = seam (λ n. length n.items ≤ 1048576) done m ms limits.short;
    shallow = shallow_seam done m ms limits.shallow;
  };
  version = λ off. any_seam (λ (n : Module). list_any has_turns n.items) done m ms (version off);
}

all_stand : (turns : Bool) (done ms : List Module) → AreProper (done ++ ms) → IsWithinLimits (done ++ ms) → ((turns ≡ false) → have_turns (done ++ ms) ≡ false) → AllStand turns done ms
all_stand turns done [] rules limits version = tt
all_stand turns done (m ∷ ms) rules limits version =
    let same : (done ++ m ∷ []) ++ ms ≡ done ++ m ∷ ms = append_assoc done (m ∷ []) ms in (
      stands turns done m ms rules limits version,
      all_stand turns (done ++ m ∷ []) ms (subst AreProper (sym same) rules) (subst IsWithinLimits (sym same) limits) (λ off. subst (λ (z : List Module). have_turns z ≡ false) (sym same) (version off)),
    )

some_module : (ms : List Module) → IsWhole ms → 0 < length ms
some_module [] whole = absurd (let clash : None ≡ Some main_key = whole.main_last in cc)
some_module (m ∷ ms) whole = omega arith

read_as : (turns : Bool) (text : List ℕ) (ms : List Module) → AreProper ms → IsWhole ms → IsWithinLimits ms → ((turns ≡ false) → have_turns ms ≡ false) →
    text ≡ hier_text (version_of turns) ms → IsHierText text ms
read_as turns text ms rules whole limits version is = record {
  lines = number_line (codes "hier") (version_of turns) ∷ lines_of 0 ms;
  text_is = is ∙ ap (λ (z : List ℕ). number_line (codes "hier") (version_of turns) ++ z) (sym (joined_modules 0 ms));
  go = (
    Between turns [],
    title_is_line turns,
    record { in_place = record { turns = turns; line_is = refl; next_is = refl }; within = no_limit_between turns [] },
    modules_go turns [] ms (all_stand turns [] ms rules limits version) (some_module ms whole) whole rules.distinct,
  );
  may_end = tt;
}

-- A TEXT IN THE GRAMMAR, of modules within the limits, is read as these modules
pub hier_text_read : (text : List ℕ) (ms : List Module) → IsHier text ms → IsWithinLimits ms → IsHierText text ms
hier_text_read text ms p limits = by p.written
  where
    by : ((have_turns ms ≡ false) × (text ≡ hier_text 1 ms)) ⊎ (text ≡ hier_text 2 ms) → IsHierText text ms
    by (inl q) = read_as false text ms p.proper.rules p.proper.whole limits (λ off. q.0) q.1
    by (inr q) = read_as true text ms p.proper.rules p.proper.whole limits (λ off. absurd (true≢false off)) q

pub sound_text_read : (ms : List Module) → IsDeck ms → IsSound ms → IsHierText (hier ms) ms
sound_text_read ms deck sound = hier_text_read (hier ms) ms (IsHier-sound ms deck sound) (IsWithinLimits-sound ms deck sound)

-- WHAT IS READ IS THE TEXT OF ITS MODULES
-- what follows the first lines of a module, or its items, or the whole
record FollowsModules (turns : Bool) (done all : List Module) (text : List ℕ) : Type 0 where
  ms : List Module
  all_is : all ≡ done ++ ms
  text_is : text ≡ modules_text (length done) ms
  version : (turns ≡ false) → have_turns ms ≡ false

record FollowsItems (turns : Bool) (done : List Module) (m : Module) (all : List Module) (text : List ℕ) : Type 0 where
  items : List Item
  ms : List Module
  all_is : all ≡ done ++ with_items m.key (m.items ++ items) ∷ ms
  text_is : text ≡ flat_map item_line items ++ (codes "end\n" ++ modules_text (length done + 1) ms)
  version : (turns ≡ false) → (list_any has_turns items ≡ false) × (have_turns ms ≡ false)

record FollowsTitle (all : List Module) (text : List ℕ) : Type 0 where
  turns : Bool
  text_is : text ≡ hier_text (version_of turns) all
  version : (turns ≡ false) → have_turns all ≡ false

abbrev Follows : Stage → List Module → List ℕ → Type 0
Follows Title all text = FollowsTitle all text
Follows (Between turns done) all text = FollowsModules turns done all text
Follows (Within turns done m) all text = FollowsItems turns done m all text
Follows (Over modules) all text = (all ≡ modules) × (text ≡ [])

both_false : (a b : Bool) → a ≡ false → b ≡ false → (a || b) ≡ false
both_false a b p q = λ i. p i || q i

fresh_back : (i : Item) (wires : Numbers) (line : List ℕ) → both (after_item wires i) ≤ 65536 → ItemText i line → line ≡ item_line i
fresh_back (item.Fresh class n) wires line narrow p =
    let small : digits_value 10 p.digits < 2 ^ 64 = omega (arith, p.number_is.value, fresh_small class n wires narrow) in
    let same : p.digits ≡ decimal n = sym (whole_decimal p.digits p.number_is.whole small) ∙ ap decimal (sym p.number_is.value) in
    p.line_is ∙ ap (λ (z : List ℕ). fresh_word class ++ codes " " ++ z ++ codes "\n") same
fresh_back (item.Gate g) wires line narrow p = p
fresh_back (item.Call callee ws) wires line narrow p = p
fresh_back (item.Gates g n) wires line narrow p = p
fresh_back (item.Calls callee ws n) wires line narrow p = p

many_back : (class : Class) (n : ℕ) (text : List ℕ) → n ≤ 65536 → ArgText (Many class n) text → text ≡ arg_text (Many class n)
many_back class n text small p =
    let few : digits_value 10 p.digits < 2 ^ 64 = omega (arith, p.length_is.value, small) in
    let same : p.digits ≡ decimal n = sym (whole_decimal p.digits p.length_is.whole few) ∙ ap decimal (sym p.length_is.value) in
    p.text_is ∙ ap (λ (z : List ℕ). class_letter class ∷ (codes "[" ++ z ++ codes "]")) same

args_back_texts : (args : List Arg) (texts : List (List ℕ)) (wires : Numbers) → both (fold with_arg wires args) ≤ 65536 → ArgTexts args texts → texts ≡ map arg_text args
args_back_texts [] [] wires narrow p = refl
args_back_texts [] (t ∷ texts) wires narrow p = absurd p
args_back_texts (a ∷ args) [] wires narrow p = absurd p
args_back_texts (Int n ∷ args) (t ∷ texts) wires narrow p = let rest = args_back_texts args texts wires narrow p.1 in λ i. p.0 i ∷ rest i
args_back_texts (Double x ∷ args) (t ∷ texts) wires narrow p = let rest = args_back_texts args texts wires narrow p.1 in λ i. p.0 i ∷ rest i
args_back_texts (One class ∷ args) (t ∷ texts) wires narrow p = let rest = args_back_texts args texts (with_more class 1 wires) narrow p.1 in λ i. p.0 i ∷ rest i
args_back_texts (Many class n ∷ args) (t ∷ texts) wires narrow p =
    let here = many_back class n t (omega (arith, narrow, args_grow args (with_more class n wires), more_grows class n wires)) p.0 in
    let rest = args_back_texts args texts (with_more class n wires) narrow p.1 in
    λ i. here i ∷ rest i

heading_back : (number : ℕ) (key : Key) (line : List ℕ) → both (params_of key) ≤ 65536 → IsHeading number key line → line ≡ heading_line number key
heading_back number key line narrow p =
    let parts = args_back_texts key.args p.text_is.parts no_wires narrow p.text_is.parts_are in
    let text : p.text ≡ signature key = p.text_is.text_is ∙ ap (λ (z : List (List ℕ)). key.name ++ codes "(" ++ join_with_byte 44 z ++ codes ")") parts in
    p.line_is ∙ ap (λ (z : List ℕ). codes "module " ++ decimal number ++ codes " " ++ z ++ codes "\n") text

follows_title : (line rest : List ℕ) (all : List Module) (next : Stage) → IsTitle line next → Follows next all rest → FollowsTitle all (line ++ rest)
follows_title line rest all next p follows =
    let f : FollowsModules p.turns [] all rest = subst (λ (z : Stage). Follows z all rest) p.next_is follows in
    record {
      turns = p.turns;
      text_is = ap (λ (z : List ℕ). z ++ rest) p.line_is ∙ ap (λ (z : List ℕ). number_line (codes "hier") (version_of p.turns) ++ z) (f.text_is ∙ ap (modules_text 0) (sym f.all_is));
      version = λ off. subst (λ (z : List Module). have_turns z ≡ false) (sym f.all_is) (f.version off);
    }

follows_heading : (turns : Bool) (done : List Module) (line rest : List ℕ) (all : List Module) (next : Stage) → BeginsModule turns done line next → ((limit : Limit) → Passes next limit → ⊥) →
    Follows next all rest → FollowsModules turns done all (line ++ rest)
follows_heading turns done line rest all next p none follows =
    let begun : Module = with_items p.key [] in
    let f : FollowsItems turns done begun all rest = subst (λ (z : Stage). Follows z all rest) p.next_is follows in
    let narrow : both (params_of p.key) ≤ 65536 = few_wires turns done begun (none_at_next next (Within turns done begun) p.next_is none) in
    record {
      ms = with_items p.key f.items ∷ f.ms;
      all_is = f.all_is;
      text_is = ap (λ (z : List ℕ). z ++ rest) (heading_back (length done) p.key line narrow p.line_is) ∙ (ap (λ (z : List ℕ). heading_line (length done) p.key ++ z) f.text_is
          ∙ sym (three_parts (heading_line (length done) p.key) (flat_map item_line f.items) (codes "end\n") (modules_text (length done + 1) f.ms)));
      version = λ off. let v = f.version off in both_false (list_any has_turns f.items) (have_turns f.ms) v.0 v.1;
    }

follows_item : (turns : Bool) (done : List Module) (m : Module) (line rest : List ℕ) (all : List Module) (next : Stage) → InPlace (Within turns done m) line next → ((limit : Limit) → Passes next limit → ⊥) →
    Follows next all rest → FollowsItems turns done m all (line ++ rest)
follows_item turns done m line rest all next (inl p) none follows =
    let more : Module = with_items m.key (m.items ++ p.item ∷ []) in
    let f : FollowsItems turns done more all rest = subst (λ (z : Stage). Follows z all rest) p.next_is follows in
    let wide : both (wires_of (body_of more)) ≤ 65536 = few_wires turns done more (none_at_next next (Within turns done more) p.next_is none) in
    let narrow : both (after_item (wires_of (body_of m)) p.item) ≤ 65536 = omega (arith, wide, ap both (after_items-push (params_of m.key) m.items p.item)) in
    record {
      items = p.item ∷ f.items;
      ms = f.ms;
      all_is = f.all_is ∙ ap (λ (z : List Item). done ++ with_items m.key z ∷ f.ms) (append_assoc m.items (p.item ∷ []) f.items);
      text_is = ap (λ (z : List ℕ). z ++ rest) (fresh_back p.item (wires_of (body_of m)) line narrow p.line_is) ∙ (ap (λ (z : List ℕ). item_line p.item ++ z) f.text_is
          ∙ sym (append_assoc (item_line p.item) (flat_map item_line f.items) (codes "end\n" ++ modules_text (length done + 1) f.ms)));
      version = λ off. let v = f.version off in (both_false (has_turns p.item) (list_any has_turns f.items) (p.item_is.version off) v.0, v.1);
    }
follows_item turns done m line rest all next (inr (inl p)) none follows =
    let f : FollowsModules turns (done ++ m ∷ []) all rest = subst (λ (z : Stage). Follows z all rest) p.next_is follows in
    record {
      items = [];
      ms = f.ms;
      all_is = f.all_is ∙ (append_assoc done (m ∷ []) f.ms ∙ ap (λ (z : List Item). done ++ with_items m.key z ∷ f.ms) (sym (append-nil m.items)));
      text_is = ap (λ (z : List ℕ). z ++ rest) p.line_is ∙ ap (λ (z : List ℕ). codes "end\n" ++ z) (f.text_is ∙ ap (λ (z : ℕ). modules_text z f.ms) (length-append done (m ∷ [])));
      version = λ off. (refl, f.version off);
    }
follows_item turns done m line rest all next (inr (inr p)) none follows =
    let f : (all ≡ done ++ m ∷ []) × (rest ≡ []) = subst (λ (z : Stage). Follows z all rest) p.next_is follows in
    record {
      items = [];
      ms = [];
      all_is = f.0 ∙ ap (λ (z : List Item). done ++ with_items m.key z ∷ []) (sym (append-nil m.items));
      text_is = ap (λ (z : List ℕ). z ++ rest) p.line_is ∙ ap (λ (z : List ℕ). codes "end\n" ++ z) f.1;
      version = λ off. (refl, refl);
    }

over_same : (ms ns : List Module) → Over ms ≡ Over ns → ms ≡ ns
over_same ms ns same = cc

-- lines that go on to the end
follows : (stage : Stage) (lines : List (List ℕ)) (all : List Module) → GoThrough Goes stage lines (Over all) → Follows stage all (joined lines)
follows Title [] all go = absurd (subst MayEnd (sym go) tt)
follows (Between turns done) [] all go = absurd (subst MayEnd (sym go) tt)
follows (Within turns done m) [] all go = absurd (subst MayEnd (sym go) tt)
follows (Over modules) [] all go = (over_same all modules (sym go), refl)
follows Title (line ∷ lines) all go = follows_title line (joined lines) all go.0 go.2.in_place (follows go.0 lines all go.3)
follows (Between turns done) (line ∷ lines) all go = follows_heading turns done line (joined lines) all go.0 go.2.in_place go.2.within (follows go.0 lines all go.3)
follows (Within turns done m) (line ∷ lines) all go = follows_item turns done m line (joined lines) all go.0 go.2.in_place go.2.within (follows go.0 lines all go.3)
follows (Over modules) (line ∷ lines) all go = absurd go.2.in_place

-- a text that is read as the modules of a sound deck is in the grammar
pub read_text_hier : (text : List ℕ) (ms : List Module) → IsDeck ms → IsSound ms → IsHierText text ms → IsHier text ms
read_text_hier text ms deck sound p =
    let f : FollowsTitle ms (joined p.lines) = follows Title p.lines ms p.go in
    record { proper = IsProper-sound ms deck sound; written = by f.turns f.version (p.text_is ∙ f.text_is) }
  where
    by : (t : Bool) → ((t ≡ false) → have_turns ms ≡ false) → text ≡ hier_text (version_of t) ms → ((have_turns ms ≡ false) × (text ≡ hier_text 1 ms)) ⊎ (text ≡ hier_text 2 ms)
    by false version is = inl (version refl, is)
    by true version is = inr is

-- what is read of the text of a sound deck is this deck
pub one_sound_text : (ms ns : List Module) → IsDeck ms → IsSound ms → IsHierText (hier ms) ns → ns ≡ ms
one_sound_text ms ns deck sound p = one_hier_text (hier ms) ns ms p (sound_text_read ms deck sound)
