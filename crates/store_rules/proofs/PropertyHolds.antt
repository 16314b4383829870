-- Where a store keeps the fifth rule each element has its properties and each text its blocks, and each property and block is held once.
use Rattle.std.proofs.Common.{◌≡◌, ℕ, Bool, true, false, cond, ◌&&◌, Option, Some, None, List, nat_eq, subst, refl}
use Rattle.std.proofs.lemmas.Bool.{eqb-true}
use Rattle.rec_bytes.specs.Format as format
use Rattle.store_rules.specs.Breaking.{AreProperties, HasBlock, HasProperty, IsBlockHeldOnce, IsBlockList, IsHeldOnce}
use Rattle.store_rules.specs.Breaking.{IsLong, IsPropertyList, Owns, TextKeeps, first_block, next_block, next_property}
use Rattle.store_rules.specs.Chains.{In}
use Rattle.store_rules.specs.Rules as rules
use Rattle.store_rules.specs.Views.{Records, kind_at, rec_at}
use Rattle.store_rules.proofs.NumberLaws.{eq_true}
use Rattle.store_rules.proofs.PropertyWalks.{walk_is}

module _ (records : Records) where
  abbrev pub text_owner : ℕ → ℕ → Option ℕ
  text_owner = rules.block_owner (kind_at records format.properties_file) (rec_at records format.properties_file)

  owner_by : (a b : Bool) (f first : ℕ) → cond (a && b) (Some f) None ≡ Some first → (a ≡ true) × (b ≡ true) × (f ≡ first)
  owner_by true true f first h = (refl, refl, cc)
  owner_by true false f first h = absurd cc
  owner_by false b f first h = absurd cc

  pub text_of : (file p first : ℕ) → text_owner file p ≡ Some first → (file ≡ format.properties_file) × IsLong records p × (first_block records p ≡ first)
  text_of file p first own =
      let r = owner_by (nat_eq file format.properties_file) (nat_eq (kind_at records format.properties_file p) format.text_in_blocks) (first_block records p)
      first own in
      (eqb-true file format.properties_file r.0, eqb-true (kind_at records format.properties_file p) format.text_in_blocks r.1, r.2)

  pub owns_text : (p : ℕ) → IsLong records p → text_owner format.properties_file p ≡ Some (first_block records p)
  owns_text p long = rw (eq_true (kind_at records format.properties_file p) format.text_in_blocks long) refl

  pub blocks_one : (p : ℕ) (xs ys : List ℕ) → IsBlockList records p xs → IsBlockList records p ys → xs ≡ ys
  blocks_one p xs ys h k = walk_is (next_block records) (first_block records p) xs ys h.walk k.walk

  module _ (h : AreProperties records) where
    kept_list : (file x first : ℕ) → Owns records file x first → IsPropertyList records first (h.properties.held.lists file x)
    kept_list file x first own = record {
      walk = h.properties.held.walk file x first own;
      live = λ p i. h.properties.held.only file x first p own i;
      few = h.properties.keys.few file x first own;
      named = λ p i. h.properties.keys.named file x first p own i;
      distinct = λ p q i j e. h.properties.keys.distinct file x first p q own i j e;
    }

    pub element_list : (file x first : ℕ) → Owns records file x first → (members : List ℕ) × IsPropertyList records first members
    element_list file x first own = (h.properties.held.lists file x, kept_list file x first own)

    kept_in : (file x p : ℕ) (k : HasProperty records file x p) → In p (h.properties.held.lists file x)
    kept_in file x p k =
        let a = k.among in
        subst (In p) (walk_is (next_property records) k.first a.members (h.properties.held.lists file x) a.list.walk (h.properties.held.walk file x k.first
        k.owns)) a.member

    pub held_kept : (p : ℕ) → IsHeldOnce records p
    held_kept p = record {
      held = λ live. let k = h.properties.held.held p live in (
        k.0,
        k.1,
        record {
          first = k.2;
          owns = k.3.0;
          among = record {
            members = h.properties.held.lists
                k.0 k.1;
            list = kept_list k.0 k.1 k.2 k.3.0;
            member = k.3.1;
          };
        },
      );
      once = λ file x other y a b. h.properties.held.once file x a.first other y b.first p a.owns b.owns (kept_in file x p a) (kept_in other y p b);
    }

    kept_text : (p : ℕ) → IsLong records p → IsBlockList records p (h.properties.blocks.lists format.properties_file p)
    kept_text p long =
        let own = owns_text p long in
        record {
          walk = h.properties.blocks.walk format.properties_file p (first_block records p) own;
          live = λ b i. h.properties.blocks.only format.properties_file p (first_block records p) b own i;
          pieces = h.properties.texts.pieces format.properties_file p (first_block records p) own;
        }

    pub text_kept : (p : ℕ) → TextKeeps records p
    text_kept p = record { text = λ long. (h.properties.blocks.lists format.properties_file p, kept_text p long) }

    kept_block : (p b : ℕ) → HasBlock records p b → In b (h.properties.blocks.lists format.properties_file p)
    kept_block p b k = subst (In b) (blocks_one p k.members (h.properties.blocks.lists format.properties_file p) k.list (kept_text p k.long)) k.member

    pub block_kept : (b : ℕ) → IsBlockHeldOnce records b
    block_kept b = record {
      held = λ live.
          let k = h.properties.blocks.held b live in
          let t = text_of k.0 k.1 k.2 k.3.0 in
          let i = subst (λ f. In b (h.properties.blocks.lists f k.1)) t.0 k.3.1 in
          (k.1, record { long = t.1; members = h.properties.blocks.lists format.properties_file k.1; list = kept_text k.1 t.1; member = i });
      once = λ p q a c.
          (h.properties.blocks.once format.properties_file p (first_block records p) format.properties_file q (first_block records q) b (owns_text p a.long)
          (owns_text q c.long) (kept_block p b a) (kept_block q b c)).1;
    }
