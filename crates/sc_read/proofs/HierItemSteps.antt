-- One more item of a module: in its place and within the limits, or the first limit that it passes.
use Rattle.std.proofs.Common.{◌≡◌, ◌≢◌, ℕ, ◌≤◌, Bool, max, List, [], ◌∷◌, ◌++◌, map, refl, sym, ap, ◌∙◌, subst, arith, inl, inr, length-append}
use Rattle.std.specs.Prelude.{codes, slice_index}
use Rattle.std.proofs.Math.Nat.{min-le_left}
use Rattle.std.proofs.lemmas.List.{map-append}
use Rattle.std.proofs.lemmas.List.Elements.{filter_map-append}
use Rattle.sc_gate.specs.Numbers.{Numbers, both}
use Rattle.sc_deck.specs.declared.item.Item.{Item}
use Rattle.sc_deck.specs.declared.item.Item.TheVariants as item
use Rattle.sc_deck.specs.declared.key.Key.{Key}
use Rattle.sc_deck.specs.Bodies.{Contents, wires_of, with_item}
use Rattle.sc_deck.specs.Decks.{CallsFit, ItemCallFits}
use Rattle.sc_deck.specs.Items.{callee_of, callees_of, after_item}
use Rattle.sc_deck.specs.Keys.{params_of}
use Rattle.sc_deck.specs.Modules.{Module, body_of, heights_of, greatest, greatest_called}
use Rattle.sc_deck.proofs.BodyLemmas.{after_items-push}
use Rattle.sc_deck.proofs.CalleeLemmas.{greatest-append}
use Rattle.sc_read.specs.declared.hier.HierFault.{HierFault}
use Rattle.sc_read.specs.declared.hier.HierFault.TheVariants.{BadQasm, TooWide, TooLong, TooDeep, TooManyInstances, Memory}
use Rattle.sc_read.specs.declared.item_line.Step.TheVariants.{Apply, Enter}
use Rattle.sc_read.specs.declared.item_line.ItemLine.{ItemLine}
use Rattle.sc_read.specs.declared.item_line.ItemLine.TheVariants.{Fresh, Once, Repeated}
use Rattle.sc_read.specs.HierFronts.{cut_number, cut_item, kept_item, ReadsItem}
use Rattle.sc_read.specs.HierStages.{Stage, Within, Limit, Instances, Wires, Items, Depth, IsNextItem, InPlace, Passes, Goes}
use Rattle.sc_read.specs.HierSteps.{IsBegun, IsLimitFault, IsLineFault, IsWithinLimit, GoesOn, module_of}
use Rattle.sc_read.proofs.HierModules.{more_grows, cut_back}

-- a body under a key with its parameters
body_under : (key : Key) (body : Contents) → body.params ≡ params_of key → body_of (module_of key body) ≡ body
body_under key body same = λ i. record { params = (sym same) i; items = body.items }

wires_under : (key : Key) (body : Contents) → body.params ≡ params_of key → wires_of (body_of (module_of key body)) ≡ wires_of body
wires_under key body same = ap wires_of (body_under key body same)

-- what the item line is kept as, where the item is within the limit on wires
kept_exact : (i : Item) (wires : Numbers) → both (after_item wires (cut_item i)) ≤ 65536 → cut_item i ≡ i
kept_exact (item.Fresh class n) wires h = ap (item.Fresh class) (cut_back n (omega (arith, h, more_grows class (cut_number n) wires)))
kept_exact (item.Gate gate) wires h = refl
kept_exact (item.Call callee ws) wires h = refl
kept_exact (item.Gates gate n) wires h = refl
kept_exact (item.Calls callee ws n) wires h = refl

kept_less : (i : Item) (wires : Numbers) → both (after_item wires (cut_item i)) ≤ both (after_item wires i)
kept_less (item.Fresh class n) wires = omega (arith, more_grows class n wires, more_grows class (cut_number n) wires, min-le_left n 4294967295)
kept_less (item.Gate gate) wires = omega arith
kept_less (item.Call callee ws) wires = omega arith
kept_less (item.Gates gate n) wires = omega arith
kept_less (item.Calls callee ws n) wires = omega arith

line_of : Item → ItemLine
line_of (item.Fresh class n) = Fresh class (cut_number n)
line_of (item.Gate gate) = Once (Apply gate)
line_of (item.Call callee ws) = Once (Enter callee ws)
line_of (item.Gates gate n) = Repeated (Apply gate) n
line_of (item.Calls callee ws n) = Repeated (Enter callee ws) n

line_kept : (i : Item) → kept_item (line_of i) ≡ cut_item i
unfolding line_of
line_kept (item.Fresh class n) = refl
line_kept (item.Gate gate) = refl
line_kept (item.Call callee ws) = refl
line_kept (item.Gates gate n) = refl
line_kept (item.Calls callee ws n) = refl

-- the greatest height that items and others call
pub called_join : (heights : List ℕ) (items others : List Item) → greatest_called heights (items ++ others) ≡ max (greatest_called heights items) (greatest_called heights others)
called_join heights items others =
    ap (λ (z : List ℕ). greatest (map (slice_index heights) z)) (filter_map-append callee_of items others)
    ∙ (ap greatest (map-append (slice_index heights) (callees_of items) (callees_of others))
    ∙ greatest-append (map (slice_index heights) (callees_of items)) (map (slice_index heights) (callees_of others)))

calls_push : (modules : List Module) (items : List Item) (i : Item) → CallsFit modules items → ItemCallFits modules i → CallsFit modules (items ++ i ∷ [])
calls_push modules [] i all here = (here, tt)
calls_push modules (j ∷ items) i all here = (all.0, calls_push modules items i all.1 here)

-- the module with one more item
with_more_items : Key → Contents → Item → Module
with_more_items key body i = record { key = key; items = body.items ++ i ∷ [] }

adds_item : (turns : Bool) (modules : List Module) (key : Key) (body : Contents) (line : List ℕ) (kept : ItemLine) → body.params ≡ params_of key →
    (r : ReadsItem turns modules (wires_of body) line kept) → InPlace (Within turns modules (module_of key body)) line (Within turns modules (with_more_items key body r.item))
unfolding with_more_items
adds_item turns modules key body line kept same r = inl (record {
  item = r.item;
  item_is = subst (λ (z : Numbers). IsNextItem turns modules z r.item) (sym (wires_under key body same)) r.item_is;
  line_is = r.text_is;
  next_is = refl;
})

wires_pushed : (key : Key) (body : Contents) (i : Item) → body.params ≡ params_of key → wires_of (body_of (with_more_items key body i)) ≡ after_item (wires_of body) i
unfolding with_more_items
wires_pushed key body i same =
    after_items-push (params_of key) body.items i ∙ ap (λ (z : Numbers). after_item z i) (wires_under key body same)

within_limits : (turns : Bool) (modules : List Module) (key : Key) (body : Contents) (i : Item) → body.params ≡ params_of key → IsBegun modules body → IsWithinLimit modules body i →
    (limit : Limit) → Passes (Within turns modules (with_more_items key body i)) limit → ⊥
unfolding with_more_items
within_limits turns modules key body i same begun fits Instances p = omega (arith, p, begun.room)
within_limits turns modules key body i same begun fits Wires p = omega (arith, p, fits.narrow, ap both (wires_pushed key body i same))
within_limits turns modules key body i same begun fits Items p = omega (arith, p, fits.short, length-append body.items (i ∷ []))
within_limits turns modules key body i same begun fits Depth p = omega (arith, p, fits.shallow, begun.shallow, called_join (heights_of modules) body.items (i ∷ []))

pub item_goes : (turns : Bool) (modules : List Module) (was now : Contents) (line : List ℕ) (kept : ItemLine) → IsBegun modules was → ReadsItem turns modules (wires_of was) line kept →
    IsWithinLimit modules was (kept_item kept) → now ≡ with_item was (kept_item kept) → GoesOn turns modules was line now
unfolding with_more_items
item_goes turns modules was now line kept begun r fits now_is =
    let same : kept_item kept ≡ r.item = r.kept_is ∙ kept_exact r.item (wires_of was) (subst (λ (z : Item). both (after_item (wires_of was) z) ≤ 65536) r.kept_is fits.narrow) in
    let true_fits : IsWithinLimit modules was r.item = subst (λ (z : Item). IsWithinLimit modules was z) same fits in
    let pushed : now ≡ with_item was r.item = now_is ∙ ap (with_item was) same in
    subst (λ (z : Contents). GoesOn turns modules was line z) (sym pushed) (record {
      params = refl;
      goes = λ key own. goes_under key own true_fits;
      begun = record {
        room = begun.room;
        calls = calls_push modules was.items r.item begun.calls r.item_is.call;
        short = omega (arith, true_fits.short, length-append was.items (r.item ∷ []));
        shallow = omega (arith, true_fits.shallow, begun.shallow, called_join (heights_of modules) was.items (r.item ∷ []));
      };
    })
  where
    goes_under : (key : Key) → was.params ≡ params_of key → IsWithinLimit modules was r.item → Goes (Within turns modules (module_of key was)) line (Within turns modules (module_of key (with_item was r.item)))
    goes_under key own true_fits = record {
      in_place = adds_item turns modules key was line kept own r;
      within = within_limits turns modules key was r.item own begun true_fits;
    }

pub item_bad : (turns : Bool) (modules : List Module) (body : Contents) (line : List ℕ) → line ≢ codes "end\n" → ((kept : ItemLine) → ReadsItem turns modules (wires_of body) line kept → ⊥) →
    (key : Key) → body.params ≡ params_of key → (next : Stage) → InPlace (Within turns modules (module_of key body)) line next → ⊥
item_bad turns modules body line not_end none key same next (inl p) = none (line_of p.item) (record {
  item = p.item;
  text_is = p.line_is;
  item_is = subst (λ (z : Numbers). IsNextItem turns modules z p.item) (wires_under key body same) p.item_is;
  kept_is = line_kept p.item;
})
item_bad turns modules body line not_end none key same next (inr (inl p)) = not_end p.line_is
item_bad turns modules body line not_end none key same next (inr (inr p)) = not_end p.line_is

-- a limit is passed
pub limit_passed : (turns : Bool) (modules : List Module) (body : Contents) (line : List ℕ) (kept : ItemLine) (number : ℕ) (fault : HierFault) → IsBegun modules body →
    ReadsItem turns modules (wires_of body) line kept → IsLimitFault modules body (kept_item kept) number fault →
    (key : Key) → body.params ≡ params_of key → IsLineFault (Within turns modules (module_of key body)) line number fault
unfolding with_more_items
limit_passed turns modules body line kept number (BadQasm n) begun r p key same = absurd p
limit_passed turns modules body line kept number (TooManyInstances n) begun r p key same = absurd p
limit_passed turns modules body line kept number Memory begun r p key same = tt
limit_passed turns modules body line kept number (TooWide n) begun r p key same = (
  p.0,
  record {
    next = Within turns modules (with_more_items key body r.item);
    in_place = adds_item turns modules key body line kept same r;
    passes = (omega (arith, p.1, ap (λ (z : Item). both (after_item (wires_of body) z)) r.kept_is, kept_less r.item (wires_of body), ap both (wires_pushed key body r.item same)), λ q. omega (arith, q, begun.room));
  },
)
limit_passed turns modules body line kept number (TooLong n) begun r p key same =
    let exact = kept_exact r.item (wires_of body) (subst (λ (z : Item). both (after_item (wires_of body) z) ≤ 65536) r.kept_is p.1) in
    let narrow : both (after_item (wires_of body) r.item) ≤ 65536 = subst (λ (z : Item). both (after_item (wires_of body) z) ≤ 65536) (r.kept_is ∙ exact) p.1 in (
      p.0,
      record {
        next = Within turns modules (with_more_items key body r.item);
        in_place = adds_item turns modules key body line kept same r;
        passes = (omega (arith, p.2, length-append body.items (r.item ∷ [])), (λ q. omega (arith, q, begun.room)), (λ q. omega (arith, q, narrow, ap both (wires_pushed key body r.item same))));
      },
    )
limit_passed turns modules body line kept number (TooDeep n) begun r p key same =
    let exact = kept_exact r.item (wires_of body) (subst (λ (z : Item). both (after_item (wires_of body) z) ≤ 65536) r.kept_is p.1) in
    let narrow : both (after_item (wires_of body) r.item) ≤ 65536 = subst (λ (z : Item). both (after_item (wires_of body) z) ≤ 65536) (r.kept_is ∙ exact) p.1 in
    let deep : 256 ≤ greatest_called (heights_of modules) (r.item ∷ []) = subst (λ (z : Item). 256 ≤ greatest_called (heights_of modules) (z ∷ [])) (r.kept_is ∙ exact) p.3 in (
      p.0,
      record {
        next = Within turns modules (with_more_items key body r.item);
        in_place = adds_item turns modules key body line kept same r;
        passes = (
          omega (arith, deep, called_join (heights_of modules) body.items (r.item ∷ [])),
          (λ q. omega (arith, q, begun.room)),
          (λ q. omega (arith, q, narrow, ap both (wires_pushed key body r.item same))),
          (λ q. omega (arith, q, p.2, length-append body.items (r.item ∷ []))),
        );
      },
    )
