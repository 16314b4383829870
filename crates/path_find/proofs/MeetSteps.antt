-- The steps of two searches that meet.
use Rattle.std.proofs.Common.{◌≡◌, ◌<◌, inl, inr, ℕ, zero, suc, nat_eq, Contains, sym, subst, ◌∙◌, arith}
use Rattle.std.proofs.lemmas.Bool.{OnFalse_from, OnTrue_from, cases_lt, eqb-false}
use Rattle.std.proofs.lemmas.List.Elements.{Contains-get_or, at_from_Contains}
use Rattle.std.specs.Bool.{OnFalse, OnTrue}
use borrow.Author.Tests.{eqb-true}
use Rattle.path_find.specs.Meeting.{AreApart, AreApartFrom, HaveMet}
use Rattle.path_find.specs.Reach.{GrowsFrom}
use Rattle.path_find.specs.Tree.{Rows, node_at, one_row, row_count}

-- ---- the two nodes alone

pub met_begin : (from to : ℕ) → from ≡ to → HaveMet (one_row from) (one_row to)
met_begin from to is = record { row = 0; low = omega arith; shared = (0, omega arith, sym is) }

pub apart_begin : (from to : ℕ) → ¬ (from ≡ to) → AreApart (one_row from) (one_row to)
apart_begin from to differ zero low (zero, lt, is) = differ (sym is)
apart_begin from to differ zero low (suc k, lt, is) = absurd (omega (arith, lt))
apart_begin from to differ (suc i) low has = absurd (omega (arith, low))

pub met_start : (from to : ℕ) (ahead behind : Rows) → ahead ≡ one_row from → behind ≡ one_row to → OnTrue (nat_eq from to) (HaveMet ahead behind)
met_start from to ahead behind first second =
    OnTrue_from (nat_eq from to) (HaveMet ahead behind)
    (λ e. subst (λ (rows : Rows). HaveMet rows behind) (sym first) (subst (λ (rows : Rows). HaveMet (one_row from) rows) (sym second)
    (met_begin from to (eqb-true from to e))))

pub apart_start : (from to : ℕ) (ahead behind : Rows) → ahead ≡ one_row from → behind ≡ one_row to → OnFalse (nat_eq from to) (AreApart ahead behind)
apart_start from to ahead behind first second =
    OnFalse_from (nat_eq from to) (AreApart ahead behind)
    (λ e. subst (λ (rows : Rows). AreApart rows behind) (sym first) (subst (λ (rows : Rows). AreApart (one_row from) rows) (sym second)
    (apart_begin from to (eqb-false from to e))))

-- ---- on by a level

-- the search ahead has found no node of the other's
pub apart_ahead : (old new other : Rows) (done : ℕ) → GrowsFrom old new done → AreApart old other → AreApartFrom new (row_count old) (row_count new) other
    → AreApart new other
apart_ahead old new other done grows apart fresh row low shared = elim (cases_lt row (row_count old)) [
  | inl early ↦ apart row early (subst (Contains other.nodes) (grows.nodes row early) shared)
  | inr late ↦ fresh row late low shared
]

-- nor the one that goes back
pub apart_behind : (ahead old new : Rows) (done : ℕ) → GrowsFrom old new done → AreApart ahead old → AreApartFrom new (row_count old) (row_count new) ahead
    → AreApart ahead new
apart_behind ahead old new done grows apart fresh row low shared =
    let there = at_from_Contains new.nodes (node_at ahead row) shared in
    let place = there.0 in
    let is = there.2 0 in
    elim (cases_lt place (row_count old)) [
      | inl early ↦ apart row low (subst (Contains old.nodes) (sym (grows.nodes place early) ∙ is) (Contains-get_or old.nodes place 0 early))
      | inr late ↦ fresh place late there.1 (subst (Contains ahead.nodes) (sym is) (Contains-get_or ahead.nodes row 0 low))
    ]

-- a node that the one going back has found is one that both have
pub met_behind : (ahead behind : Rows) (row : ℕ) → row < row_count behind → Contains ahead.nodes (node_at behind row) → HaveMet ahead behind
met_behind ahead behind row low shared =
    let there = at_from_Contains ahead.nodes (node_at behind row) shared in
    record { row = there.0; low = there.1; shared = subst (Contains behind.nodes) (sym (there.2 0)) (Contains-get_or behind.nodes row 0 low) }
