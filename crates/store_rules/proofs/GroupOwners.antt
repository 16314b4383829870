-- Where a store keeps the fourth rule each dense node has its groups, and each group its owner.
use Rattle.std.proofs.Common.{◌≡◌, ℕ, List, ⊎_elim, refl}
use Rattle.rec_bytes.specs.Format as format
use Rattle.store_rules.specs.Breaking.{IsGroupChain, MemberKeeps, OwnerKeeps}
use Rattle.store_rules.specs.Views.{Records, kind_at}
use Rattle.store_rules.proofs.ChainRules.{Grouped}
use Rattle.store_rules.specs.Rules.{KeepsCounts}

-- the counts of counted groups are exact
abbrev pub Exact : Records → Type 0
Exact records = KeepsCounts records

module _ (records : Records) where
  abbrev groups_of : Grouped records → (n : ℕ) → kind_at records format.nodes_file n ≡ format.dense → (members : List ℕ) × IsGroupChain records n members
  groups_of h n dense =
      let e = h.each n dense in
      (e.members, record { chain = e.chain; only = e.only; filled = λ g i. ⊎_elim (λ f. f) (λ k. elim k [ ]) (e.filled g i); once = e.once })

  pub owner_keeps : Grouped records → (n : ℕ) → OwnerKeeps records n
  owner_keeps h n = record { groups = λ dense. groups_of h n dense }

  pub member_keeps : Grouped records → Exact records → (g : ℕ) → MemberKeeps records g
  member_keeps h exact g = record {
    owner = λ row live.
        let dense = h.owned g row live in
        let k = groups_of h row.owner dense in
        let e = h.each row.owner dense in
        record { dense = dense; members = k.0; groups = k.1; member = e.all g row live refl };
    counts = λ row live counted. exact g row live counted;
  }
