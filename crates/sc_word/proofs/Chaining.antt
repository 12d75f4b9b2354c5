-- A chain of operators, link by link.
use Rattle.std.proofs.Common.{◌≡◌, ◌≢◌, true, ℕ, suc, ◌+◌, ◌<◌, List, [], ◌∷◌, ◌++◌, length, take, drop, Option, Some, None, refl, sym, ap, ◌∙◌, subst, arith}
use Rattle.std.specs.declared.boxed.Box.{Box}
use Rattle.std.specs.declared.vec.Vec.{Vec}
use Rattle.std.specs.declared.alloc.Global.{Global}
use Rattle.std.proofs.lemmas.Bool.{leb-true}
use Rattle.std.proofs.lemmas.List.{take_more}
use Rattle.std.proofs.Common.{get_or, drop-cons, Result, Ok, Err}
use Rattle.std.specs.Prelude.{IfErr, IfOk, OnOk}
use Rattle.sc_base.specs.declared.Place.{Place}
use Rattle.sc_syntax.specs.declared.WordExpr.{WordExpr}
use Rattle.sc_syntax.specs.declared.WordLink.{WordLink}
use Rattle.sc_syntax.specs.declared.WordOp.{WordOp}
use Rattle.sc_syntax.specs.declared.WordOp.TheVariants as op
use Rattle.sc_syntax.specs.declared.WordNode as source
use Rattle.sc_syntax.specs.Alike.{PureWord, PureWordLinks, pure_word, pure_word_expr, pure_word_link_list}
use Rattle.sc_word.specs.declared.chain.Chain.{Chain}
use Rattle.sc_word.specs.declared.chain.Chain.TheVariants.{Start, Joined}
use Rattle.sc_word.specs.declared.operand.Form.{Form}
use Rattle.sc_word.specs.declared.operand.Form.TheVariants.{Wide}
use Rattle.sc_word.specs.declared.operand.Operand.{Operand}
use Rattle.sc_word.specs.declared.operand.Operand.TheVariants as operand
use Rattle.sc_word.specs.declared.tree.TypedExpr.{TypedExpr}
use Rattle.sc_word.specs.declared.tree.TypedLink.{TypedLink}
use Rattle.sc_word.specs.declared.tree.TypedNode as typed
use Rattle.sc_word.specs.Pure.{PureTyped, pure_typed, pure_typed_expr}
use Rattle.sc_word.specs.declared.tree.WordFault.{WordFault}
use Rattle.sc_word.specs.declared.tree.WordFault.TheVariants.{Memory}
use Rattle.sc_word.specs.Words.{Words, widths_of, IsWidth, AreWidths}
use Rattle.sc_word.specs.Forms.{own_width, shared, op_width, form_node, form, row_width}
use Rattle.sc_word.specs.Checks.{first_fault, no_literal, meet, op_fits}
use Rattle.sc_word.specs.Typed.{TypesAs, TypesExpr, OpFits, MeetAt}
use Rattle.sc_word.specs.Operands.{or_else, fault_node, fault_row, fault_expr, form_of, with_width, WalkedWord, IsJoined, IsChain, LinksAs, InChain, Chained, chain_form, first_of, links_of}
use Rattle.sc_syntax.proofs.PureRows.{pure_word_chain}
use Rattle.sc_word.proofs.TypedRows.{pure_typed_chain}
use Rattle.sc_word.proofs.Operating.{neither, first_stands, second_stands, passes, TakesWidth, takes_by, suits_own, wide_own, both_by, wide_is_width, types_width, op_is_width, Suits}

-- ---- a chain, by the list of its links

pub fault_chain : (ws : Words) (at : Place) (first : Box WordExpr Global) (links : Vec WordLink Global)
    → fault_node ws at (pure_word (source.Chain first links)) ≡ or_else (fault_expr ws (pure_word_expr first.value)) (fault_row ws at first.value.place (form_node ws (pure_word first.value.node)) (pure_word_link_list links.items))
fault_chain ws at first links = ap (fault_node ws at) (pure_word_chain first links)

pub form_chain : (ws : Words) (first : Box WordExpr Global) (links : Vec WordLink Global)
    → form_node ws (pure_word (source.Chain first links)) ≡ Wide (row_width ws (form_node ws (pure_word first.value.node)) (pure_word_link_list links.items))
form_chain ws first links = ap (form_node ws) (pure_word_chain first links)

pub types_chain : (ws : Words) (w : ℕ) (first : Box WordExpr Global) (links : Vec WordLink Global) (word : Box TypedExpr Global) (made : Vec TypedLink Global)
    → TypesAs ws (pure_word first.value.node) word.value.width (pure_typed word.value.node)
    → LinksAs ws (form_node ws (pure_word first.value.node)) word.value.width w links.items made.items
    → TypesAs ws (pure_word (source.Chain first links)) w (pure_typed (typed.Chain word made))
types_chain ws w first links word made t h =
    subst (λ (n : PureWord). TypesAs ws n w (pure_typed (typed.Chain word made))) (sym (pure_word_chain first links))
    (subst (λ (e : PureTyped). TypesAs ws (PureWord.chain first.value.place (pure_word first.value.node) (pure_word_link_list links.items)) w e) (sym (pure_typed_chain word made)) (t, h))

-- ---- widths along a chain

links_is_width : (ws : Words) (a : Form) (x w : ℕ) (ls : List WordLink) (ts : List TypedLink) → IsWidth x → LinksAs ws a x w ls ts → IsWidth w
links_is_width ws a x w [] [] i h = subst IsWidth h.0 i
links_is_width ws a x w [] (t ∷ ts) i h = absurd h
links_is_width ws a x w (l ∷ ls) [] i h = absurd h
links_is_width ws a x w (l ∷ ls) (t ∷ ts) i h = links_is_width ws (Wide (op_width l.op x)) (op_width l.op x) w ls ts (op_is_width l.op x i) h.4

chain_is_width : (ws : Words) (n : PureWord) (done : List WordLink) (chain : Chain) (w : ℕ) → AreWidths (widths_of ws) → InChain ws n done chain → chain_form chain ≡ Wide w → IsWidth w
chain_is_width ws n done (Start (operand.Bare v)) w a h e = cc
chain_is_width ws n done (Start (operand.Word t)) w a h e = (let q : t.width ≡ w = cc in subst IsWidth q (types_width ws n t.width (pure_typed t.node) a h.2))
chain_is_width ws n done (Joined f links x) w a h e =
    (let q : x ≡ w = cc in subst IsWidth q (links_is_width ws (form_node ws n) f.width x done links.items (types_width ws n f.width (pure_typed f.node) a h.0) h.1))

pub fits_from : (at : Place) (o : WordOp) (w : ℕ) → IsWidth w → (op_fits at o w).passes ≡ true → OpFits o w
fits_from at op.Mul w a h = (a.above, leb-true w 32 h)
fits_from at op.Or w a h = a.above
fits_from at op.Xor w a h = a.above
fits_from at op.And w a h = a.above
fits_from at op.Eq w a h = a.above
fits_from at op.Lt w a h = a.above
fits_from at op.Add w a h = a.above
fits_from at op.Sub w a h = a.above

-- ---- one link more

meet_word : (f b : Form) (x w : ℕ) → f ≡ Wide x → x ≡ w → MeetAt f b w
meet_word f b x w e h = subst (λ (g : Form). MeetAt g b w) (sym e) h

links_push : (ws : Words) (a : Form) (x w : ℕ) (ls : List WordLink) (ts : List TypedLink) (l : WordLink) (t : TypedLink) → LinksAs ws a x w ls ts
    → l.op ≡ t.op → TypesExpr ws (pure_word_expr l.right) (pure_typed_expr t.right) → t.right.width ≡ w → OpFits l.op w
    → LinksAs ws a x (op_width l.op w) (ls ++ l ∷ []) (ts ++ t ∷ [])
links_push ws a x w [] [] l t h e r q f =
    (e, r, q ∙ sym h.0, subst (OpFits l.op) (sym h.0) f, (ap (op_width l.op) h.0, refl), meet_word a (form ws (pure_word_expr l.right)) x x h.1 refl)
links_push ws a x w [] (u ∷ ts) l t h e r q f = absurd h
links_push ws a x w (k ∷ ls) [] l t h e r q f = absurd h
links_push ws a x w (k ∷ ls) (u ∷ ts) l t h e r q f =
    (h.0, h.1, h.2, h.3, links_push ws (Wide (op_width k.op x)) (op_width k.op x) w ls ts l t h.4 e r q f, h.5)

joined_so_far : (ws : Words) (n : PureWord) (done : List WordLink) (l : WordLink) (chain : Chain) (t : TypedExpr) (made : Vec TypedLink Global)
    → InChain ws n done chain → Suits (chain_form chain) t.width → TypesExpr ws (pure_word_expr l.right) (pure_typed_expr t) → OpFits l.op t.width
    → MeetAt (chain_form chain) (form ws (pure_word_expr l.right)) t.width
    → made.items ≡ links_of chain ++ record { op = l.op; right = t } ∷ []
    → InChain ws n (done ++ l ∷ []) (Joined (first_of t.width chain) made (op_width l.op t.width))
joined_so_far ws n done l (Start o) t made h s r f m e =
    let first = takes_by ws n o t.width h.1 h.2 s in
    let u : TypedExpr = with_width t.width o in
    let beside : MeetAt (form_node ws n) (form ws (pure_word_expr l.right)) t.width = subst (λ (g : Form). MeetAt g (form ws (pure_word_expr l.right)) t.width) h.1 m in
    let at : (x : ℕ) → t.width ≡ x → LinksAs ws (form_node ws n) x (op_width l.op t.width) ([] ++ l ∷ []) ([] ++ record { op = l.op; right = t } ∷ []) =
    λ x q. (refl, r, q, subst (OpFits l.op) q f, (ap (op_width l.op) (sym q), refl), subst (MeetAt (form_node ws n) (form ws (pure_word_expr l.right))) q beside) in (
      first.tree,
      subst (λ (ts : List TypedLink). LinksAs ws (form_node ws n) u.width (op_width l.op t.width) (done ++ l ∷ []) ts) (sym e)
          (subst (λ (ls : List WordLink). LinksAs ws (form_node ws n) u.width (op_width l.op t.width) (ls ++ l ∷ []) ([] ++ record { op = l.op; right = t } ∷ [])) (sym h.0)
          (at u.width (sym first.width))),
    )
joined_so_far ws n done l (Joined first links x) t made h s r f m e =
    let q : x ≡ t.width = s in (
      h.0,
      subst (λ (ts : List TypedLink). LinksAs ws (form_node ws n) first.width (op_width l.op t.width) (done ++ l ∷ []) ts) (sym e)
          (subst (λ (y : ℕ). LinksAs ws (form_node ws n) first.width (op_width l.op y) (done ++ l ∷ []) (links.items ++ record { op = l.op; right = t } ∷ [])) q
          (links_push ws (form_node ws n) first.width x done links.items l (record { op = l.op; right = t }) h.1 refl r (sym q) (subst (OpFits l.op) (sym q) f))),
    )

pub chain_more : (ws : Words) (at p : Place) (n : PureWord) (done rest all : List WordLink) (l : WordLink) (chain r : Chain) (o : Operand) → AreWidths (widths_of ws)
    → Chained ws at p n done (l ∷ rest) all chain → WalkedWord ws l.right.place (pure_word l.right.node) o
    → first_fault (meet at p (chain_form chain) l.right.place (form_of o) ∷ op_fits at l.op (shared (chain_form chain) (form_of o)) ∷ []) ≡ None
    → IsJoined chain l.op o r → Chained ws at p n (done ++ l ∷ []) rest all r
chain_more ws at p n done rest all l chain r o a h k none i =
    let left = chain_form chain in
    let right_form : Form = form_node ws (pure_word l.right.node) in
    let w = shared left (form_of o) in
    let first = passes (meet at p left l.right.place (form_of o)) (op_fits at l.op w ∷ []) none in
    let second = passes (op_fits at l.op w) [] first.1 in
    let both = both_by at p l.right.place left (form_of o) (λ x e. chain_is_width ws n done chain x a h.so_far e) (λ x e. wide_is_width ws l.right.place (pure_word l.right.node) o x a k e) first.0 in
    let right = takes_by ws (pure_word l.right.node) o w k.form k.tree both.right in
    let t : TypedExpr = with_width w o in
    let beside : MeetAt left right_form w = subst (λ (f : Form). MeetAt left f w) k.form both.meet in
    let none' : first_fault (meet at p left l.right.place right_form ∷ op_fits at l.op (shared left right_form) ∷ []) ≡ None =
    subst (λ (f : Form). first_fault (meet at p left l.right.place f ∷ op_fits at l.op (shared left f) ∷ []) ≡ None) k.form none in
    let wide : ℕ = op_width l.op (shared left right_form) in
    let width : op_width l.op w ≡ wide = ap (λ (f : Form). op_width l.op (shared left f)) k.form in
    let after : PureWordLinks = pure_word_link_list rest in
    subst (λ (c : Chain). Chained ws at p n (done ++ l ∷ []) rest all c) (sym i.is) (record {
      so_far = subst (λ (y : ℕ). InChain ws n (done ++ l ∷ []) (Joined (first_of y chain) i.links (op_width l.op y))) right.width
          (joined_so_far ws n done l chain t i.links h.so_far (subst (Suits left) (sym right.width) both.left) right.tree
          (subst (OpFits l.op) (sym right.width) (fits_from at l.op w both.width second.0)) (subst (MeetAt left right_form) (sym right.width) beside) i.items);
      fault = ap (λ (y : ℕ). fault_row ws at p (Wide y) after) width
          ∙ sym (ap (λ (x : Option WordFault). or_else x (or_else (first_fault (meet at p left l.right.place right_form ∷ op_fits at l.op (shared left right_form) ∷ [])) (fault_row ws at p (Wide wide) after))) k.fault
          ∙ ap (λ (x : Option WordFault). or_else x (fault_row ws at p (Wide wide) after)) none')
          ∙ h.fault;
      width = ap (λ (y : ℕ). row_width ws (Wide y) after) width ∙ h.width;
    })

finished_types : (ws : Words) (first : Box WordExpr Global) (links : Vec WordLink Global) (chain : Chain) (word : Box TypedExpr Global) (made : Vec TypedLink Global)
    → InChain ws (pure_word first.value.node) links.items chain → Suits (chain_form chain) (own_width (chain_form chain)) → chain_form chain ≡ Wide (own_width (chain_form chain))
    → word.value ≡ first_of (own_width (chain_form chain)) chain → made.items ≡ links_of chain
    → TypesAs ws (pure_word (source.Chain first links)) (own_width (chain_form chain)) (pure_typed (typed.Chain word made))
finished_types ws first links (Start o) word made h s b e q =
    let n = pure_word first.value.node in
    let w : ℕ = own_width (form_of o) in
    let t = takes_by ws n o w h.1 h.2 s in
    let u : TakesWidth ws n w word.value = subst (TakesWidth ws n w) (sym e) t in
    types_chain ws w first links word made u.tree
    (subst (λ (ts : List TypedLink). LinksAs ws (form_node ws n) word.value.width w links.items ts) (sym q)
    (subst (λ (ls : List WordLink). LinksAs ws (form_node ws n) word.value.width w ls []) (sym h.0) (u.width, sym h.1 ∙ b ∙ ap Wide (sym u.width))))
finished_types ws first links (Joined f ls w) word made h s b e q =
    let n = pure_word first.value.node in
    types_chain ws w first links word made (subst (λ (t : TypedExpr). TypesAs ws n t.width (pure_typed t.node)) (sym e) h.0)
    (subst (λ (ts : List TypedLink). LinksAs ws (form_node ws n) word.value.width w links.items ts) (sym q)
    (subst (λ (t : TypedExpr). LinksAs ws (form_node ws n) t.width w links.items ls.items) (sym e) h.1))

pub chain_end : (ws : Words) (at : Place) (first : Box WordExpr Global) (links : Vec WordLink Global) (chain : Chain) (r : Operand)
    → fault_expr ws (pure_word_expr first.value) ≡ None → Chained ws at first.value.place (pure_word first.value.node) links.items [] links.items chain
    → first_fault (no_literal first.value.place (chain_form chain) ∷ []) ≡ None → IsChain chain r → WalkedWord ws at (pure_word (source.Chain first links)) r
chain_end ws at first links chain r none h last i = subst (λ (q : Operand). WalkedWord ws at (pure_word (source.Chain first links)) q) (sym i.is) (record {
  fault = fault_chain ws at first links ∙ neither none (sym h.fault ∙ last);
  form = ap Wide h.width ∙ sym (form_chain ws first links);
  tree = finished_types ws first links chain i.word i.links h.so_far (suits_own first.value.place (chain_form chain) last) (wide_own first.value.place (chain_form chain) last) i.value i.items;
})

-- a fault among the links is the chain's
pub chain_fault : (ws : Words) (at : Place) (first : Box WordExpr Global) (links : Vec WordLink Global) (f : WordFault)
    → fault_expr ws (pure_word_expr first.value) ≡ None → fault_row ws at first.value.place (form_node ws (pure_word first.value.node)) (pure_word_link_list links.items) ≡ Some f
    → fault_node ws at (pure_word (source.Chain first links)) ≡ Some f
chain_fault ws at first links f none h =
    fault_chain ws at first links ∙ second_stands (fault_expr ws (pure_word_expr first.value)) (fault_row ws at first.value.place (form_node ws (pure_word first.value.node)) (pure_word_link_list links.items)) none h

-- the fault of the next operand, and of its operator
pub right_fault : (ws : Words) (at p : Place) (n : PureWord) (done rest all : List WordLink) (l : WordLink) (chain : Chain) (f : WordFault)
    → Chained ws at p n done (l ∷ rest) all chain → fault_expr ws (pure_word_expr l.right) ≡ Some f → fault_row ws at p (form_node ws n) (pure_word_link_list all) ≡ Some f
right_fault ws at p n done rest all l chain f h e = sym h.fault ∙ first_stands (fault_expr ws (pure_word_expr l.right)) _ e

pub join_fault : (ws : Words) (at p : Place) (n : PureWord) (done rest all : List WordLink) (l : WordLink) (chain : Chain) (o : Operand) (f : WordFault)
    → Chained ws at p n done (l ∷ rest) all chain → WalkedWord ws l.right.place (pure_word l.right.node) o
    → first_fault (meet at p (chain_form chain) l.right.place (form_of o) ∷ op_fits at l.op (shared (chain_form chain) (form_of o)) ∷ []) ≡ Some f
    → fault_row ws at p (form_node ws n) (pure_word_link_list all) ≡ Some f
join_fault ws at p n done rest all l chain o f h k e =
    sym h.fault ∙ second_stands (fault_expr ws (pure_word_expr l.right)) _ k.fault (first_stands _ _
    (subst (λ (g : Form). first_fault (meet at p (chain_form chain) l.right.place g ∷ op_fits at l.op (shared (chain_form chain) g) ∷ []) ≡ Some f) k.form e))

-- ---- the next link of a list

pub next_drop : (ls : List WordLink) (i : ℕ) (l : WordLink) → i < length ls → l ≡ get_or ls i l → drop i ls ≡ l ∷ drop (i + 1) ls
next_drop ls i l h e = let s : suc i ≡ i + 1 = omega arith in drop-cons ls i l h ∙ ap (λ (x : WordLink). x ∷ drop (suc i) ls) (sym e) ∙ ap (λ k. l ∷ drop k ls) s

pub next_take : (ls : List WordLink) (i : ℕ) (l : WordLink) → i < length ls → l ≡ get_or ls i l → take (i + 1) ls ≡ take i ls ++ l ∷ []
next_take ls i l h e = take_more ls i l h ∙ ap (λ (x : WordLink). take i ls ++ x ∷ []) (sym e)

-- what the exit of a `?` answers
pub exit : (r : Result Operand WordFault) (g : WordFault) (a : Option WordFault) → (y : WordFault) × (r ≡ Err y) × (y ≡ g) → (g ≢ Memory → a ≡ Some g) → IfErr r (λ f. f ≢ Memory → a ≡ Some f)
exit r g a p h = rw (p.1) (λ free. h (λ e. free (p.2 ∙ e)) ∙ ap Some (sym p.2))

-- the two clauses on what a call answers, as one
pub ok_of : (r : Result Operand WordFault) (P : Type 0) (Q R : Operand → Type 0) → IfOk r Q → OnOk r P → (P → (o : Operand) → Q o → R o) → IfOk r R
ok_of (Ok o) P Q R q p h = h p o q
ok_of (Err f) P Q R q p h = tt

pub err_of : (r : Result Operand WordFault) (Q R : WordFault → Type 0) → IfErr r Q → ((f : WordFault) → Q f → R f) → IfErr r R
err_of (Ok o) Q R q h = tt
err_of (Err f) Q R q h = h f q
