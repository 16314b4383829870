use Rattle.std.proofs.Common.{rules, arith, ◌≡◌, ◌<◌, ◌+◌, ◌∷◌, [], ℕ, List, length, map, take, get_or, sym, subst, ⊎_elim}
use Rattle.std.proofs.lemmas.List.{map_more, take_all}
use Rattle.prop_store.proofs.Causes.{cause_passed}
use Rattle.store_rules.specs.Chains.{In}
use Rattle.store_rules.specs.Views.{Records}
use Rattle.store_rules.proofs.OnceLaws.{in_parts}
use Rattle.index_check.specs.Indexing.{IsRight}
use Rattle.index_check.specs.Values.{AreReadable}
use Rattle.index_check.specs.declared.definitions.Definition.{Definition}
use Rattle.index_check.proofs.SoundExits.{sound_exit}
use Rattle.rec_bytes.proofs.Causes.{never_ok, ok_cause}
use Rattle.record_lists.proofs.OnlyReads.{is_read-none, is_read-on}
use Rattle.index_check.proofs.checking.check_each.Goals as goal

abbrev blank : Definition
blank = record { id = 0; label = 0; key = 0 }

abbrev id_of : Definition → ℕ
id_of a = a.id

-- what holds of the first ones, and of the next
one_more_right : (P : ℕ → Type 0) (all : List Definition) (i : ℕ) → i < length all → ((d : ℕ) → In d (map id_of (take i all)) → P d) → P (get_or all i blank).id
    → (d : ℕ) → In d (map id_of (take (i + 1) all)) → P d
one_more_right P all i lt before here d m = ⊎_elim
    (λ (k : In d (map id_of (take i all))). before d k)
    (λ (k : In d ((get_or all i blank).id ∷ [])). ⊎_elim (λ (e : d ≡ (get_or all i blank).id). subst P (sym e) here) (λ none. elim none [ ]) k)
    (in_parts d (map id_of (take i all)) ((get_or all i blank).id ∷ []) (subst (In d) (map_more id_of all i blank lt) m))

pub loop-definition-init : goal.loop-definition-init
loop-definition-init g c = record {
  right = λ tells d i. elim i [ ];
  read = is_read-none g.R.Reads g.met.R.Reads.stays_onward c.args.space.now;
}

pub loop-definition-preserved : goal.loop-definition-preserved
loop-definition-preserved g c =
    let records = (g.R.Reads.state c.args.space.now).records in
    let inv = c.loop-definition.invariant in
    let all = c.args.definitions.now in
    let i = c.loop-definition.definition-index in
    let d = get_or all i blank in
    record {
      right = λ tells.
          let right : IsRight (g.R.Reads.state c.loop-definition.space).records d.id = search (rules, c.in_ok-damage.ensures.right tells) in
          one_more_right (IsRight records) all i c.loop-definition-test.true (inv.right tells) (subst (λ (r : Records). IsRight r d.id) inv.read.records right);
      read = is_read-on g.R.Reads g.met.R.Reads.further_onward c.args.space.now c.loop-definition.space c.check_index.new.space inv.read
          c.in_ok-damage.ensures.read;
    }

pub returns-clause-right : goal.returns-clause-right
returns-clause-right g c = λ tells d m.
    let all = c.args.definitions.now in
    let i = c.loop-definition.definition-index in
    c.loop-definition.invariant.right tells d (subst (λ (ds : List Definition). In d (map id_of ds)) (sym (take_all i all (omega arith))) m)

pub returns-in_err-damage-clause-not_damaged : goal.returns-in_err-damage-clause-not_damaged
returns-in_err-damage-clause-not_damaged g c = λ tells readable.
    sound_exit c.from_residual.result c.in_err-damage.field-0.0 c.from_residual.ensures.1
    (c.in_err-damage.ensures.not_damaged tells (subst AreReadable (sym c.loop-definition.invariant.read.records) readable))

pub returns-in_err-damage-clause-read : goal.returns-in_err-damage-clause-read
returns-in_err-damage-clause-read g c =
    is_read-on g.R.Reads g.met.R.Reads.further_onward c.args.space.now c.loop-definition.space c.check_index.new.space c.loop-definition.invariant.read
    c.in_err-damage.ensures.read

pub returns-in_err-damage-clause-cause : goal.returns-in_err-damage-clause-cause
returns-in_err-damage-clause-cause g c =
    cause_passed _ _ _ c.from_residual.result c.in_err-damage.field-0.0 c.loop-definition.invariant.read.later c.in_err-damage.ensures.cause
    c.from_residual.ensures.1

pub returns-in_err-damage-clause-right : goal.returns-in_err-damage-clause-right
returns-in_err-damage-clause-right g c _ = never_ok c.from_residual.result _ _ c.from_residual.ensures.1

pub returns-in_err-damage-clause-broken : goal.returns-in_err-damage-clause-broken
returns-in_err-damage-clause-broken g c _ = never_ok c.from_residual.result _ _ c.from_residual.ensures.1

pub returns-clause-cause : goal.returns-clause-cause
returns-clause-cause g c = ok_cause _ _ _ _ c.loop-definition.invariant.read.later
