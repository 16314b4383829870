-- A count of a chain, step by step.
use Rattle.std.proofs.Common.{◌≡◌, ◌≢◌, ◌<◌, ◌≤◌, ◌+◌, ℕ, Bool, true, false, ◌&&◌, not, nat_eq, cond, None, Some, List, [], ◌∷◌, length, sym, ap, ◌∙◌}
use Rattle.std.proofs.Common.{subst, inl, inr, refl, arith}
use Rattle.std.proofs.lemmas.Bool.{true≢false}
use Rattle.std.proofs.lemmas.List.{length_push}
use Rattle.rec_bytes.specs.declared.damage.Damage.{Damage}
use Rattle.rec_bytes.specs.declared.fault.Fault.{Fault}
use Rattle.rec_bytes.specs.declared.fault.Fault.TheVariants.{Memory, Disk, Damaged}
use Rattle.rec_bytes.specs.declared.key.Key.{Key}
use Rattle.rec_bytes.specs.Fault.{damage_of}
use Rattle.rec_bytes.specs.Key.{IsKey}
use Rattle.rel_store.specs.RelRecord.{rel_key}
use Rattle.std.specs.Prelude.{IfSome}
use Rattle.rec_bytes.specs.declared.record.Rec.{Rec}
use Rattle.rec_bytes.specs.Format as format
use Rattle.rec_bytes.specs.Format.{nil}
use Rattle.rec_bytes.specs.Record.{field}
use Rattle.rec_bytes.specs.Space.{State, after_gets}
use Rattle.store_rules.specs.Chains.{In, IsChain, IsWalk, next_in}
use Rattle.store_rules.specs.Rules.{passes}
use Rattle.store_rules.specs.Views.{rec_at, rel_in, row_if}
use Rattle.store_rules.proofs.ViewLaws.{kind_low}
use Rattle.rel_store.specs.Loading.{rel_mark, rel_room}
use Rattle.chain_edit.specs.declared.members.Members.{Members}
use Rattle.chain_edit.specs.Chains.{next_of, prev_of}
use Rattle.chain_edit.specs.Length.{HasCounted, IsLengthDamage, IsLengthFault, IsMemberChain, is_member, is_member_in, stands}
use Rattle.chain_edit.specs.Length.IsLengthDamage.{NoChain, HighMark}
use Rattle.chain_edit.specs.Walking.{IsSoundFrom, IsStepDamage, IsStepFault}
use Rattle.chain_edit.specs.Walking.IsStepDamage.{NoStep, HighLink}
use Rattle.chain_edit.proofs.Walks.{HasMet, link_is, mark_then, met_all, met_more, met_none, no_step, room_then}

-- what the record says of one that was given out
pub stands_is : (s : State) (node : ℕ) (members : Members) (x : ℕ) → x < rel_mark s → stands s.records node members x ≡ is_member_in
    (rec_at s.records format.relationships_file x) node members
stands_is s node members x lt =
    let r = rec_at s.records format.relationships_file x in
    ap (λ k. passes (is_member node members) (row_if k (rel_in r x))) (kind_low (rel_mark s) r x lt) ∙ by (nat_eq (field 1 r format.kind) 0)
  where
    by : (b : Bool) → passes (is_member node members) (cond b None (Some (rel_in (rec_at s.records format.relationships_file x) x)))
        ≡ (not b && is_member node members (rel_in (rec_at s.records format.relationships_file x) x))
    by true = refl
    by false = refl

-- ---- what was counted

-- so many were met between one relationship and another, and each stands there
pub record CountsSoFar (s : State) (first node : ℕ) (members : Members) (before at n : ℕ) : Type 0 where
  pub met : HasMet s first node before at
  pub many : length met.members ≡ n
  pub counted : List ℕ
  pub long : length counted ≡ n
  pub walk : IsWalk (prev_of s.records node) before counted
  pub low : (x : ℕ) → In x counted → x < rel_mark s
  pub key : (x : ℕ) → In x counted → IsKey (rel_key x)
  pub are : (x : ℕ) → In x counted → stands s.records node members x ≡ true

pub counts_none : (s : State) (first node : ℕ) (members : Members) → CountsSoFar s first node members nil first 0
unfolding met_none
counts_none s first node members = record {
  met = met_none s first node;
  many = refl;
  counted = [];
  long = refl;
  walk = refl;
  low = λ x i. elim i [ ];
  key = λ x i. elim i [ ];
  are = λ x i. elim i [ ];
}

with_first : (P : ℕ → Type 0) (at : ℕ) (xs : List ℕ) → P at → ((x : ℕ) → In x xs → P x) → (x : ℕ) → In x (at ∷ xs) → P x
with_first P at xs here later x (inl e) = subst P (sym e) here
with_first P at xs here later x (inr i) = later x i

pub counts_more : (s : State) (first node : ℕ) (members : Members) (before at to n : ℕ) (rec : Rec) → at ≢ nil → at < rel_mark s → IsKey (rel_key at)
    → prev_of s.records node at ≡ before
    → rec ≡ rec_at s.records 2 at → to ≡ next_in rec node → is_member_in rec node members ≡ true → CountsSoFar s first node members before at n → CountsSoFar s
    first node members at to (n + 1)
unfolding met_more
counts_more s first node members before at to n rec there low key back got is member so_far = record {
  met = met_more s first node before at to there low back (link_is s node at to rec got is) so_far.met;
  many = length_push so_far.met.members at ∙ ap (λ k. k + 1) so_far.many;
  counted = at ∷ so_far.counted;
  long = let e = so_far.long in omega arith;
  walk = (refl, there, subst (λ z. IsWalk (prev_of s.records node) z so_far.counted) (sym back) so_far.walk);
  low = with_first (λ x. x < rel_mark s) at so_far.counted low so_far.low;
  key = with_first (λ x. IsKey (rel_key x)) at so_far.counted key so_far.key;
  are = with_first (λ x. stands s.records node members x ≡ true) at so_far.counted (stands_is s node members at low ∙ ap (λ r. is_member_in r node members)
      (sym got) ∙ member) so_far.are;
}

-- at the end, or where the budget is used up
pub counts_all : (s : State) (first node : ℕ) (members : Members) (budget before at n : ℕ) → (n < budget → at ≡ nil) → CountsSoFar s first node members before
    at n → HasCounted s first node members budget n
counts_all s first node members budget before at n end so_far = record {
  last = before;
  counted = so_far.counted;
  many = sym so_far.long;
  walk = so_far.walk;
  low = so_far.low;
  key = so_far.key;
  are = so_far.are;
  whole = λ lt. (so_far.met.members, met_all s first node n before at (end lt) so_far.met (let e = so_far.many in omega arith), so_far.many);
}

-- ---- what is left

-- the rest of a chain of relationships that stand there
pub record IsRest (s : State) (node : ℕ) (members : Members) (before at : ℕ) (ys : List ℕ) : Type 0 where
  pub sound : IsSoundFrom s node before at (length ys) ys
  pub are : (x : ℕ) → In x ys → stands s.records node members x ≡ true

abbrev pub HasRest : State → ℕ → Members → ℕ → ℕ → Type 0
HasRest s node members before at = (ys : List ℕ) × IsRest s node members before at ys

pub rest_all : (s : State) (first node : ℕ) (members : Members) (xs : List ℕ) → IsMemberChain s first node members xs → HasRest s node members nil first
rest_all s first node members xs chain = (xs, record { sound = record { chain = chain.chain; few = omega arith; low = chain.low }; are = chain.are })

pub rest_more : (s : State) (node : ℕ) (members : Members) (before at to : ℕ) (rec : Rec) → at ≢ nil → rec ≡ rec_at s.records 2 at → to ≡ next_in rec node
    → HasRest s node members before at → HasRest s node members at to
rest_more s node members before at to rec there got is ([], h) = absurd (there h.sound.chain)
rest_more s node members before at to rec there got is (y ∷ ys, h) =
    let next = next_of s.records node in
    let prev = prev_of s.records node in
    let on : IsChain next prev at (next at) ys = subst (λ z. IsChain next prev z (next z) ys) (sym h.sound.chain.0) h.sound.chain.3 in (
      ys,
      record {
        sound = record {
          chain = subst (λ z. IsChain next prev at z ys) (link_is s node at to rec got is) on;
          few = omega arith;
          low = λ x i. h.sound.low x
              (inr i);
        };
        are = λ x i. h.are x (inr i);
      },
    )

-- the next one stands there
pub rest_stands : (s : State) (node : ℕ) (members : Members) (before at : ℕ) → at ≢ nil → HasRest s node members before at → stands s.records node members at ≡
    true
rest_stands s node members before at there ([], h) = absurd (there h.sound.chain)
rest_stands s node members before at there (y ∷ ys, h) = subst (λ z. stands s.records node members z ≡ true) (sym h.sound.chain.0) (h.are y (inl refl))

-- ---- damage

pub step_damage : (s now : State) (n : ℕ) (owner : Key) (first node : ℕ) (members : Members) (before at : ℕ) (damage : Damage) → now ≡ after_gets n s → at ≢ nil
    → ((xs : List ℕ) → IsMemberChain s first node members xs → HasRest s node members before at) → IsStepDamage now owner node before at damage → IsLengthDamage
    s owner first node members damage
step_damage s now n owner first node members before at damage reads there rest told = by damage told
  where
    by : (damage : Damage) → IsStepDamage now owner node before at damage → IsLengthDamage s owner first node members damage
    by damage (NoStep fails) = NoChain (λ xs chain. let left = rest xs chain in no_step s now n node before (length left.0) at reads there fails
        (left.0, left.1.sound))
    by damage (HighLink above) = HighMark (let mark = mark_then s now n reads in let room = room_then s now n reads in omega arith)

-- one that doesn't stand there
pub no_member : (s : State) (first node : ℕ) (members : Members) (before at : ℕ) (rec : Rec) → at ≢ nil → at < rel_mark s → rec ≡ rec_at s.records 2 at
    → is_member_in rec node members ≡ false
    → ((xs : List ℕ) → IsMemberChain s first node members xs → HasRest s node members before at) → (xs : List ℕ) → IsMemberChain s first node members xs → ⊥
no_member s first node members before at rec there low got other rest xs chain =
    true≢false (sym (rest_stands s node members before at there (rest xs chain)) ∙ stands_is s node members at low ∙ ap (λ r. is_member_in r node members)
    (sym got) ∙ other)

pub none_damaged : (s : State) (owner : Key) (first node : ℕ) (members : Members) (xs : List ℕ) (damage : Damage) → rel_mark s ≤ rel_room s → IsMemberChain s
    first node members xs → IsLengthDamage s owner first node members damage → ⊥
none_damaged s owner first node members xs damage mark chain (NoChain none) = none xs chain
none_damaged s owner first node members xs damage mark chain (HighMark above) = omega arith

pub step_fault : (s now : State) (n : ℕ) (owner : Key) (first node : ℕ) (members : Members) (before at : ℕ) (fault : Fault) → now ≡ after_gets n s → at ≢ nil
    → ((xs : List ℕ) → IsMemberChain s first node members xs → HasRest s node members before at) → IsStepFault now owner node before at fault → IsLengthFault s
    owner first node members fault
step_fault s now n owner first node members before at Memory reads there rest told = tt
step_fault s now n owner first node members before at Disk reads there rest told = tt
step_fault s now n owner first node members before at (Damaged damage) reads there rest told = step_damage s now n owner first node members before at damage
    reads there rest told

pub undamaged : (s : State) (owner : Key) (first node : ℕ) (members : Members) (xs : List ℕ) (fault : Fault) → rel_mark s ≤ rel_room s → IsMemberChain s first
    node members xs → IsLengthFault s owner first node members fault → IfSome (damage_of fault) (λ _. ⊥)
undamaged s owner first node members xs Memory mark chain told = tt
undamaged s owner first node members xs Disk mark chain told = tt
undamaged s owner first node members xs (Damaged damage) mark chain told = none_damaged s owner first node members xs damage mark chain told
