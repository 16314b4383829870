-- The chains of nodes, where a relationship joins one or leaves it.
use Rattle.std.proofs.Common.{◌≡◌, ◌≢◌, ◌⊎◌, ℕ, Option, ◌+◌, ◌≤◌, ◌<◌, ◌^◌, sym, ap, ◌∙◌, subst, inl, inr, ⊎_elim, arith}
use Rattle.rec_bytes.specs.declared.key.Key.{Key}
use Rattle.rec_bytes.specs.Format as format
use Rattle.rec_bytes.specs.Record.{with_field}
use Rattle.rec_bytes.specs.Space.{State, after_get, put}
use Rattle.rec_bytes.proofs.Spaces.{put_other}
use Rattle.store_rules.specs.Chains.{In, next_in, prev_in}
use Rattle.store_rules.specs.Rules.{AllListed, Head, IsListed, Owns, first_of}
use Rattle.store_rules.specs.Views.{GroupRow, Records, key_in, kind_at, rec_at}
use Rattle.store_rules.proofs.ChainLaws.{walk_of_chain}
use Rattle.chain_edit.specs.Chains.{Differ, next_of, prev_of}
use Rattle.chain_edit.specs.Links.{backed, next_set}
use Rattle.chain_edit.specs.Listed.{with_one, without_one}
use Rattle.chain_edit.specs.Pushing.{pushed}
use Rattle.chain_edit.specs.Unlinking.{unlinked}
use Rattle.chain_edit.proofs.AllPushed.{all_listed_pushed, all_listed_stays}
use Rattle.chain_edit.proofs.AllUnlinked.{all_listed_unlinked}
use Rattle.store_rules.proofs.ChainSteps.{after_in, before_in, first_before, first_in}
use Rattle.chain_edit.proofs.Edits.{prev_of-backed_other}
use Rattle.chain_edit.proofs.LinkLaws.{field-set_other, prev_of-set_next}
use Rattle.chain_edit.proofs.OwnedHeads.{owned_heads}
use Rattle.edge_changes.specs.EdgeEnds.{joined, parted}
use Rattle.group_store.specs.Counting.{one_less, one_more, tallied}
use Rattle.group_store.proofs.Tallies.{field-tallied, file-tallied}
use Rattle.edge_changes.proofs.EdgeSteps.{IsUsedLink}

-- the number of a head's relationships is no link
listed_tallied : (change : ℕ → ℕ) (one : State) (kind : ℕ → ℕ) (groups : ℕ → Option GroupRow) (head : Head) (at : Head → ℕ → Type 0)
    → AllListed one.records (Owns kind groups) at → AllListed (tallied change one head).records (Owns kind groups) at
listed_tallied change one kind groups head at all = all_listed_stays one.records (tallied change one head).records (Owns kind groups) at
    (λ h n x o a. ap (λ r. next_in r n) (rel x)) (λ h n x o a. ap (λ r. prev_in r n) (rel x))
    (λ h n o. field-tallied change one head h.key 4 h.field (low h n o)) all
  where
    rel : (x : ℕ) → rec_at (tallied change one head).records format.relationships_file x ≡ rec_at one.records format.relationships_file x
    rel x = file-tallied change one head (key_in format.relationships_file x) (λ e. let z : 2 ≡ 3 = e in omega arith)

    low : (h : Head) (n : ℕ) → Owns kind groups h n → h.field + 4 ≤ 32
    low h n (inl o) = let e = ap (λ (z : Head). z.field) o.is in omega arith
    low h n (inr o) = ⊎_elim (λ (e : h.field ≡ 20). omega arith) (λ k. ⊎_elim (λ (e : h.field ≡ 24). omega arith) (λ (e : h.field ≡ 28). omega arith) k) o.field

-- the degree is no link
module _ (one : Records) (kind : ℕ → ℕ) (groups : ℕ → Option GroupRow) (node d : ℕ) where
  abbrev place : Head
  place = record { key = key_in format.nodes_file node; field = format.node_degree }

  abbrev after : Records
  after = put one (key_in format.nodes_file node) (with_field 4 (one (key_in format.nodes_file node)) format.node_degree d)

  degree_rel : (x : ℕ) → rec_at after format.relationships_file x ≡ rec_at one format.relationships_file x
  degree_rel x = put_other one (key_in format.nodes_file node) (with_field 4 (one (key_in format.nodes_file node)) format.node_degree d)
      (key_in format.relationships_file x) (λ e. let f = ap (λ (k : Key). k.file) e in omega arith)

  degree_head : (h : Head) (n : ℕ) → Owns kind groups h n → first_of after h ≡ first_of one h
  degree_head h n o = let p = (owned_heads kind groups).place h n o in field-set_other one place d h.key 4 h.field p.fits (aside o)
    where
      aside : Owns kind groups h n → h.key ≡ key_in format.nodes_file node → (h.field + 4 ≤ format.node_degree) ⊎ (format.node_degree + 4 ≤ h.field)
      aside (inl p) e = inl (let q = ap (λ (z : Head). z.field) p.is in omega arith)
      aside (inr p) e = absurd (let q = ap (λ (k : Key). k.file) (sym p.key ∙ e) in omega arith)

  listed_degree : (at : Head → ℕ → Type 0) → AllListed one (Owns kind groups) at → AllListed after (Owns kind groups) at
  listed_degree at all = all_listed_stays one after (Owns kind groups) at (λ h n x o a. ap (λ r. next_in r n) (degree_rel x))
      (λ h n x o a. ap (λ r. prev_in r n) (degree_rel x)) degree_head all

module _ (s : State) (kind : ℕ → ℕ) (groups : ℕ → Option GroupRow) (at : Head → ℕ → Type 0) (all : AllListed s.records (Owns kind groups) at)
    (head : Head) (node rel d : ℕ) (owned : Owns kind groups head node) where
  here : IsListed s.records head node (at head)
  here = all.each head node owned

  -- the first link, and those of a member, lead to what stands there
  pub first_used : ((x : ℕ) → at head x → kind_at s.records format.relationships_file x ≡ format.related) → IsUsedLink s.records (first_of s.records head)
  first_used used = ⊎_elim (λ e. inl e) (λ i. inr (used (first_of s.records head) (here.only (first_of s.records head) i)))
      (first_in (next_of s.records node) (first_of s.records head) here.members (walk_of_chain _ _ format.nil (first_of s.records head) here.members
      here.chain))

  pub next_used : at head rel → ((x : ℕ) → at head x → kind_at s.records format.relationships_file x ≡ format.related)
      → IsUsedLink s.records (next_of s.records node rel)
  next_used member used = ⊎_elim (λ e. inl e) (λ i. inr (used (next_of s.records node rel) (here.only (next_of s.records node rel) i)))
      (after_in (next_of s.records node) (first_of s.records head) here.members rel (walk_of_chain _ _ format.nil (first_of s.records head) here.members
      here.chain) (here.all rel member))

  pub prev_used : at head rel → ((x : ℕ) → at head x → kind_at s.records format.relationships_file x ≡ format.related)
      → IsUsedLink s.records (prev_of s.records node rel)
  prev_used member used = ⊎_elim
      (λ (e : first_of s.records head ≡ rel). inl (first_before (next_of s.records node) (prev_of s.records node) format.nil (first_of s.records head)
      here.members rel here.chain (here.all rel member) e))
      (λ i. inr (used (prev_of s.records node rel) (here.only (prev_of s.records node rel) i)))
      (before_in (next_of s.records node) (prev_of s.records node) format.nil (first_of s.records head) here.members rel here.chain (here.all rel member))

  -- ---- a relationship that joins
  module _ (small : rel < 2 ^ 25) (fresh : at head rel → ⊥) where
    not_first : rel ≢ first_of s.records head
    not_first e = ⊎_elim (λ none. omega arith) (λ i. fresh (here.only rel (subst (λ z. In z here.members) (sym e) i)))
        (first_in (next_of s.records node) (first_of s.records head) here.members (walk_of_chain _ _ format.nil (first_of s.records head) here.members
        here.chain))

    pub joined_listed : prev_of s.records node rel ≡ format.nil
        → ((h : Head) (n x : ℕ) → Owns kind groups h n → h ≢ head → at h x → at head x ⊎ (x ≡ rel) → Differ s.records node n x)
        → AllListed (joined s head node rel d).records (Owns kind groups) (with_one at head rel)
    unfolding joined
    joined_listed alone apart = listed_degree (tallied one_more (pushed s head node rel) head).records kind groups node d (with_one at head rel)
        (listed_tallied one_more (pushed s head node rel) kind groups head (with_one at head rel) (all_listed_pushed s (Owns kind groups) at
        (owned_heads kind groups) all head node rel owned small fresh alone apart))

    -- none is before it yet at another end
    pub prev_joined : (m : ℕ) → prev_of (joined s head node rel d).records m rel ≡ prev_of s.records m rel
    unfolding joined pushed
    prev_joined m =
        let first = first_of s.records head in
        let back = backed (after_get s) node first rel in
        let linked = next_set back node rel first in
        let p = (owned_heads kind groups).place head node owned in
        ap (λ r. prev_in r m) (degree_rel (tallied one_more (pushed s head node rel) head).records kind groups node d rel)
        ∙ ap (λ r. prev_in r m) (file-tallied one_more (pushed s head node rel) head (key_in format.relationships_file rel)
        (λ e. let z : 2 ≡ 3 = e in omega arith))
        ∙ ap (λ r. prev_in r m) (put_other linked.records head.key (with_field 4 (s.records head.key) head.field rel) (key_in format.relationships_file rel)
        (λ e. p.elsewhere (ap (λ (k : Key). k.file) (sym e))))
        ∙ prev_of-set_next back.records node rel first m rel ∙ prev_of-backed_other (after_get s) node first rel m rel (λ e. absurd (not_first e))

  -- ---- one that leaves
  pub parted_listed : at head rel → ((h : Head) (n x : ℕ) → Owns kind groups h n → h ≢ head → at h x → at head x → Differ s.records node n x)
      → AllListed (parted s head node rel d).records (Owns kind groups) (without_one at head rel)
  unfolding parted
  parted_listed member apart = listed_degree (tallied one_less (unlinked s head node rel) head).records kind groups node d (without_one at head rel)
      (listed_tallied one_less (unlinked s head node rel) kind groups head (without_one at head rel) (all_listed_unlinked s (Owns kind groups) at
      (owned_heads kind groups) all head node rel owned member apart))
