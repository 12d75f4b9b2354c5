-- The numbers of a request that words ask for are in their ranges.
use Rattle.std.proofs.Common.{◌≡◌, ℕ, ◌≤◌, Bool, true, false, ◌&&◌, List, [], ◌∷◌, length, Option, Some, None, refl, ap, subst, ◌∙◌, if◌then◌else◌}
use Rattle.std.proofs.lemmas.Bool.{leb-true}
use Rattle.std.specs.Prelude.{nat_le, unwrap_or, option_map, option_and_then, slice_get}
use Rattle.std.specs.Char.{is_ascii_digit}
use Rattle.std.specs.List.{list_all}
use Rattle.std.specs.Str.Parse.{digits_value}
use Rattle.sc_words.specs.Words.{Piece, InRange, choice_of, request, row_request, row_of, asked, asked_of, values_by, value_of, operands_of, in_form, number, is_lpfs, times_of, mode_named}
use Rattle.sc_words.specs.declared.request.Request.{Request}
use Rattle.sc_words.specs.declared.request.Request.TheVariants as asks
use Rattle.sc_words.specs.declared.words.table.Mode.{Mode}
use Rattle.sc_words.specs.declared.words.table.Mode.TheVariants as mode
use Rattle.sc_words.specs.declared.words.table.OptionName.{OptionName}
use Rattle.sc_words.specs.declared.words.table.OptionName.TheVariants as name
use Rattle.sc_words.specs.declared.words.values.Values.{Values}

-- what an optional step comes from
and_some : {A B : Type 0} (f : A → Option B) (o : Option A) (b : B) → option_and_then f o ≡ Some b → (a : A) × (o ≡ Some a) × (f a ≡ Some b)
and_some f (Some a) b is = (a, refl, is)
and_some f None b is = cc

same_job : (x job : Request) → Some x ≡ Some job → x ≡ job
same_job x job is = ap (λ (o : Option Request). unwrap_or o job) is

-- what a request keeps to
kept_to : (x job : Request) → InRange x → Some x ≡ Some job → InRange job
kept_to x job range is = subst InRange (same_job x job is) range

least_of : (a b : ℕ) → nat_le a b ≡ true → a ≤ b
least_of a b is = leb-true a b is

-- a number is in its range
in_number : (low high : ℕ) (text : List ℕ) (n : ℕ) → number low high text ≡ Some n → (low ≤ n) × (n ≤ high)
in_number low high text n is =
    by (nat_le 1 (length text)) (nat_le (length text) 20) (list_all is_ascii_digit text) (nat_le low (digits_value 10 text)) (nat_le (digits_value 10 text) high) refl refl is
  where
    by : (a b c d e : Bool) → nat_le low (digits_value 10 text) ≡ d → nat_le (digits_value 10 text) high ≡ e → (if a && (b && (c && (d && e))) then Some (digits_value 10 text) else None) ≡ Some n → (low ≤ n) × (n ≤ high)
    by true true true true true above below is =
        let n_is : digits_value 10 text ≡ n = ap (λ (o : Option ℕ). unwrap_or o n) is in
        (subst (λ (m : ℕ). low ≤ m) n_is (least_of low (digits_value 10 text) above), subst (λ (m : ℕ). m ≤ high) n_is (least_of (digits_value 10 text) high below))
    by false b c d e above below is = cc
    by true false c d e above below is = cc
    by true true false d e above below is = cc
    by true true true false e above below is = cc
    by true true true true false above below is = cc

-- a value that is in its form comes from the form
formed : {X : Type 0} (form : List ℕ → Option X) (text : Option (List ℕ)) (x : X) → in_form form text ≡ Some (Some x) → (t : List ℕ) × (form t ≡ Some x)
formed form None x is = cc
formed {X = X} form (Some t) x is = by (form t) refl is
  where
    by : (o : Option X) → form t ≡ o → option_map Some o ≡ Some (Some x) → (t : List ℕ) × (form t ≡ Some x)
    by (Some y) was is = (t, was ∙ ap (λ (o : Option (Option X)). unwrap_or o (Some y)) is)
    by None was is = cc

-- regions and width, where they stand, are at least 1
record AreRanged (v : Values) : Type 0 where
  regions : (k : ℕ) → v.regions ≡ Some k → 1 ≤ k
  width : (d : ℕ) → v.width ≡ Some d → 1 ≤ d

least_one : (text : Option (List ℕ)) (o : Option (Option ℕ)) (n : ℕ) → in_form (number 1 1000000) text ≡ o → o ≡ Some (Some n) → 1 ≤ n
least_one text o n is some = let t = formed (number 1 1000000) text n (is ∙ some) in (in_number 1 1000000 t.0 n t.1).0

values_ranged : (value : OptionName → Option (List ℕ)) (v : Values) → values_by value ≡ Some v → AreRanged v
values_ranged value v is =
    by (in_form (number 0 18446744073709551615) (value name.Limit)) (in_form (number 1 1000000) (value name.Regions)) (in_form (number 1 1000000) (value name.Width)) (in_form is_lpfs (value name.Order))
    (in_form times_of (value name.Times)) refl refl is
  where
    by : (l r w : Option (Option ℕ)) (o : Option (Option Bool)) (t : Option (Option (List ℕ))) → in_form (number 1 1000000) (value name.Regions) ≡ r → in_form (number 1 1000000) (value name.Width) ≡ w
        → option_and_then (λ limit. option_and_then (λ regions. option_and_then (λ width. option_and_then (λ lpfs. option_map (λ times. record { limit = limit; regions = regions; width = width; lpfs = lpfs; times = times }) t) o) w) r) l ≡ Some v
        → AreRanged v
    by (Some l) (Some r) (Some w) (Some o) (Some t) rs ws is =
        let made : Values = record { limit = l; regions = r; width = w; lpfs = o; times = t } in
        let v_is : made ≡ v = ap (λ (found : Option Values). unwrap_or found v) is in
        record {
          regions = λ k there. least_one (value name.Regions) (Some r) k rs (ap Some (ap (λ (x : Values). x.regions) v_is ∙ there));
          width = λ d there. least_one (value name.Width) (Some w) d ws (ap Some (ap (λ (x : Values). x.width) v_is ∙ there));
        }
    by None r w o t rs ws is = cc
    by (Some l) None w o t rs ws is = cc
    by (Some l) (Some r) None o t rs ws is = cc
    by (Some l) (Some r) (Some w) None t rs ws is = cc
    by (Some l) (Some r) (Some w) (Some o) None rs ws is = cc

asked_range : (m : Mode) (pieces : List Piece) (v : Values) (file : List ℕ) (job : Request) → AreRanged v → asked_of m pieces v file ≡ Some job → InRange job
asked_range mode.Hier pieces v file job ranged is = kept_to _ job tt is
asked_range mode.Flat pieces v file job ranged is = kept_to _ job tt is
asked_range mode.Count pieces v file job ranged is = kept_to _ job tt is
asked_range mode.Schedule pieces v file job ranged is = by v.regions v.width refl refl is
  where
    by : (r w : Option ℕ) → v.regions ≡ r → v.width ≡ w → option_and_then (λ k. option_map (λ d. asks.Schedule file (choice_of pieces) k d (unwrap_or v.lpfs false) v.times) w) r ≡ Some job → InRange job
    by (Some k) (Some d) rs ws is = kept_to _ job (ranged.regions k rs, ranged.width d ws) is
    by None w rs ws is = cc
    by (Some k) None rs ws is = cc
asked_range mode.Expand pieces v file job ranged is = kept_to _ job tt is
asked_range mode.Check pieces v file job ranged is = by (slice_get (operands_of pieces) 1) is
  where
    by : (o : Option (List ℕ)) → option_map (λ schedule. asks.Check file schedule) o ≡ Some job → InRange job
    by (Some schedule) is = kept_to _ job tt is
    by None is = cc
asked_range mode.Drill pieces v text job ranged is = by (number 1 50000 text) refl is
  where
    by : (o : Option ℕ) → number 1 50000 text ≡ o → option_map (λ n. asks.Drill n) o ≡ Some job → InRange job
    by (Some n) was is = kept_to _ job (in_number 1 50000 text n was) is
    by None was is = cc
asked_range mode.Coarse pieces v file job ranged is = by v.regions v.width refl refl is
  where
    by : (r w : Option ℕ) → v.regions ≡ r → v.width ≡ w → option_and_then (λ k. option_map (λ d. asks.Coarse file (choice_of pieces) k d (unwrap_or v.lpfs false)) w) r ≡ Some job → InRange job
    by (Some k) (Some d) rs ws is = kept_to _ job (ranged.regions k rs, ranged.width d ws) is
    by None w rs ws is = cc
    by (Some k) None rs ws is = cc
asked_range mode.Open pieces v file job ranged is = kept_to _ job tt is
asked_range mode.Reopen pieces v file job ranged is = kept_to _ job tt is
asked_range mode.Cancel pieces v file job ranged is = kept_to _ job tt is

-- THE RANGES of what words ask for
pub in_range : (words : List (List ℕ)) (job : Request) → request words ≡ Some job → InRange job
in_range [] job is = cc
in_range (word ∷ words) job is =
    let a = and_some (λ (m : Mode). row_request m words) (mode_named word) job is in
    let b = and_some (asked a.0) (row_of a.0 words) job a.2 in
    let c = and_some (λ (v : Values). option_and_then (asked_of a.0 b.0 v) (slice_get (operands_of b.0) 0)) (values_by (λ o. value_of o b.0)) job b.2 in
    let d = and_some (asked_of a.0 b.0 c.0) (slice_get (operands_of b.0) 0) job c.2 in
    asked_range a.0 b.0 c.0 d.0 job (values_ranged (λ o. value_of o b.0) c.0 c.1) d.2
