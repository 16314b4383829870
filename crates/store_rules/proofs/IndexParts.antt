-- The eighth rule holds exactly where each record keeps its part of it.
use Rattle.std.proofs.Common.{◌≡◌, ℕ, ◌/◌, ◌<◌, nat_eq, true, Option, None, Some, List, [], sym, ap, ◌∙◌, subst, ⊎_elim, arith, refl}
use Rattle.std.proofs.lemmas.Bool.{cases_lt, eqb-true, true≢false}
use Rattle.plain_graph.specs.declared.value.Value.{Value}
use Rattle.store_rules.specs.Chains.{In}
use Rattle.store_rules.specs.Hashes.{bucket_of, hash_of}
use Rattle.store_rules.specs.Indexes.{AreIndexed, Entry, HasEntry, IsBucket, IsOfIndex, entry_hash, entry_in}
use Rattle.store_rules.specs.Indexes.{entry_node, has_hash, heads_of, indexed_key, indexed_label, node_value, wanted_in}
use Rattle.store_rules.specs.Indexes.IsOfIndex.{IsDefinition, IsEntry, IsHeads}
use Rattle.store_rules.specs.IndexBreaking.{AreDefinitions, DefinitionKeeps, EachKeeps, IsAmongDefinitions, IsBucketList, IsEntered, IsInBucket, IsOfAnIndex}
use Rattle.store_rules.specs.IndexBreaking.IsOfAnIndex.{Defines, Enters, Heads}
use Rattle.store_rules.specs.Views.{Records}
use Rattle.store_rules.proofs.ChainLaws.{walk_of_chain}
use Rattle.store_rules.proofs.MemberLaws.{in_cases}
use Rattle.store_rules.proofs.PropertyWalks.{walk_is}

-- a value that has the hash
pub hash_had : (hash : ℕ) (o : Option Value) → has_hash hash o ≡ true → (value : Value) × (o ≡ Some value) × (hash_of value ≡ hash)
hash_had hash None h = absurd (true≢false (sym h))
hash_had hash (Some value) h = (value, refl, eqb-true (hash_of value) hash h)

module _ (records : Records) where
  -- ---- lists are determined

  -- each list of the definitions has the same ones
  pub definitions_same : (ds es : List ℕ) → AreDefinitions records ds → AreDefinitions records es → ds ≡ es
  definitions_same ds es a b = walk_is _ _ ds es a.walk b.walk

  -- and each list of a bucket the same entries
  pub bucket_same : (d b : ℕ) (xs ys : List ℕ) → IsBucketList records d b xs → IsBucketList records d b ys → xs ≡ ys
  bucket_same d b xs ys h k = walk_is _ _ xs ys (walk_of_chain _ _ _ _ xs h.chain) (walk_of_chain _ _ _ _ ys k.chain)

  -- ---- the rule from its parts

  module _ (k : EachKeeps records) where
    abbrev ds : List ℕ
    ds = k.meta.members

    among : (d : ℕ) → In d ds → IsAmongDefinitions records d
    among d i = record { members = ds; list = k.meta.list; member = i }

    kept : (d : ℕ) → In d ds → DefinitionKeeps records d
    kept d i = k.definition d (among d i)

    -- the list of a bucket, where there is one
    record Pick (d b : ℕ) : Type 0 where
      pub list : List ℕ
      pub is : In d ds → b < 180 → IsBucketList records d b list

    pick : (d b : ℕ) → Pick d b
    pick d b = ⊎_elim
        (λ (i : In d ds). ⊎_elim
        (λ (lt : b < 180). let l = (kept d i).buckets b lt in record { list = l.0; is = λ _ _. l.1 })
        (λ ge. record { list = []; is = λ _ lt. absurd (omega arith) })
        (cases_lt b 180))
        (λ (out : ¬ In d ds). record { list = []; is = λ i _. absurd (out i) })
        (in_cases d ds)

    abbrev lists : ℕ → ℕ → List ℕ
    lists d b = (pick d b).list

    listed : (d b : ℕ) → In d ds → b < 180 → IsBucketList records d b (lists d b)
    listed d b i lt = (pick d b).is i lt

    here : (d b x : ℕ) → In d ds → b < 180 → In x (lists d b) → IsInBucket records d b x
    here d b x i lt m = record { definition = among d i; low = lt; members = lists d b; list = listed d b i lt; member = m }

    -- what is in a bucket is in its list
    there : (d b x : ℕ) → In d ds → IsInBucket records d b x → In x (lists d b)
    there d b x i at = subst (In x) (bucket_same d b at.members (lists d b) at.list (listed d b i at.low)) at.member

    in_ds : (d : ℕ) → IsAmongDefinitions records d → In d ds
    in_ds d a = subst (In d) (definitions_same a.members ds a.list k.meta.list) a.member

    bucket : (d b : ℕ) → In d ds → b < 180 → IsBucket records (wanted_in records) d b (lists d b)
    bucket d b i lt =
        let l = listed d b i lt in
        record { chain = l.chain; kind = l.kind; hash = l.hash; wanted_is = λ x m. (k.entry x).wanted d b (here d b x i lt m) }

    has_all : (d : ℕ) (e : Entry) → In d ds → e.label ≡ indexed_label records d → e.key ≡ indexed_key records d → wanted_in records e ≡ true
        → HasEntry records d e (lists d (bucket_of e.hash))
    has_all d e i l q w =
        let v = hash_had e.hash (node_value records e.label e.key e.node) w in
        let value : node_value records (indexed_label records d) (indexed_key records d) e.node ≡ Some v.0 = sym (λ j. node_value records (l j) (q j) e.node)
        ∙ v.1 in
        let found = (k.node e.node).has d v.0 (among d i) value in
        let x = found.entry in
        let u = hash_had (entry_hash records x) (node_value records (indexed_label records d) (indexed_key records d) (entry_node records x))
        ((k.entry x).wanted d found.bucket found.there) in
        let same : Some u.0 ≡ Some v.0 = sym u.1 ∙ ap (node_value records (indexed_label records d) (indexed_key records d)) found.node ∙ value in
        let hash : entry_hash records x ≡ e.hash = sym u.2 ∙ ap hash_of (some_one u.0 v.0 same) ∙ v.2 in
        let at : found.bucket ≡ bucket_of e.hash = sym (found.there.list.hash x found.there.member) ∙ ap bucket_of hash in
        record {
          id = x;
          member = subst (λ b. In x (lists d b)) at (there d found.bucket x i found.there);
          is = λ j. record { label = sym l j; key = sym q j; node = found.node j; hash = hash j };
        }
      where
        some_one : (a b : Value) → Some a ≡ Some b → a ≡ b
        some_one a b e = cc

    of_index : (x : ℕ) → IsOfAnIndex records x → IsOfIndex records ds lists x
    of_index x (Defines a) = IsDefinition (in_ds x a)
    of_index x (Heads d c h) = IsHeads d c (in_ds d h.definition) h.low h.is
    of_index x (Enters d b h) = IsEntry d b (in_ds d h.definition) h.low (there d b x (in_ds d h.definition) h)

    pub indexed_of : AreIndexed records (wanted_in records)
    indexed_of = record {
      definitions = ds;
      walk = k.meta.list.walk;
      few = k.meta.list.few;
      defined = k.meta.list.defined;
      distinct = λ d e i j l q. (kept e j).alone d (among d i) l q;
      heads = λ d c i lt. (kept d i).heads c lt;
      heads_once = λ d c e n i j l m q. (k.head (heads_of records e n)).once d c e n (record { definition = among d i; low = l; is = q })
          (record { definition = among e j; low = m; is = refl });
      lists = lists;
      buckets = bucket;
      all = has_all;
      once = λ d b x y i lt m n same _. (k.node (entry_node records y)).once d b x b y (here d b x i lt m) (here d b y i lt n) same refl;
      one = λ d b e c x i j l m p q. (k.entry x).once d b e c (here d b x i l p) (here e c x j m q);
      held = λ x live. of_index x (k.held x live);
    }

  -- ---- the parts from the rule

  module _ (ix : AreIndexed records (wanted_in records)) where
    list : AreDefinitions records ix.definitions
    list = record { walk = ix.walk; few = ix.few; defined = ix.defined }

    member : (d : ℕ) → IsAmongDefinitions records d → In d ix.definitions
    member d a = subst (In d) (definitions_same a.members ix.definitions a.list list) a.member

    defines : (d : ℕ) → In d ix.definitions → IsAmongDefinitions records d
    defines d i = record { members = ix.definitions; list = list; member = i }

    bucket_list : (d b : ℕ) → In d ix.definitions → b < 180 → IsBucketList records d b (ix.lists d b)
    bucket_list d b i lt =
        let l = ix.buckets d b i lt in
        record { head = ix.heads d (b / 15) i (omega arith); chain = l.chain; kind = l.kind; hash = l.hash }

    inside : (d b x : ℕ) → IsInBucket records d b x → In x (ix.lists d b)
    inside d b x h = subst (In x) (bucket_same d b h.members (ix.lists d b) h.list (bucket_list d b (member d h.definition) h.low)) h.member

    is_wanted : (d b x : ℕ) → IsInBucket records d b x → wanted_in records (entry_in records d x) ≡ true
    is_wanted d b x h = (ix.buckets d b (member d h.definition) h.low).wanted_is x (inside d b x h)

    value_of : (d b x : ℕ) → IsInBucket records d b x → (value : Value)
        × (node_value records (indexed_label records d) (indexed_key records d) (entry_node records x) ≡ Some value) × (hash_of value ≡ entry_hash records x)
    value_of d b x h = hash_had (entry_hash records x) (node_value records (indexed_label records d) (indexed_key records d) (entry_node records x))
        (is_wanted d b x h)

    -- two entries of one node have the hash of its value
    same_hash : (d b x c y : ℕ) → IsInBucket records d b x → IsInBucket records d c y → entry_node records x ≡ entry_node records y
        → entry_hash records x ≡ entry_hash records y
    same_hash d b x c y h k e =
        let u = value_of d b x h in
        let v = value_of d c y k in
        let same : Some u.0 ≡ Some v.0 = sym u.1 ∙ ap (node_value records (indexed_label records d) (indexed_key records d)) e ∙ v.1 in
        sym u.2 ∙ ap hash_of (some_one u.0 v.0 same) ∙ v.2
      where
        some_one : (a b : Value) → Some a ≡ Some b → a ≡ b
        some_one a b q = cc

    once_in : (n d b x c y : ℕ) → IsInBucket records d b x → IsInBucket records d c y → entry_node records x ≡ n → entry_node records y ≡ n → x ≡ y
    once_in n d b x c y h k p q =
        let node = p ∙ sym q in
        let hash = same_hash d b x c y h k node in
        let bucket : c ≡ b = sym (k.list.hash y k.member) ∙ ap bucket_of (sym hash) ∙ h.list.hash x h.member in
        ix.once d b x y (member d h.definition) h.low (inside d b x h) (subst (λ z. In y (ix.lists d z)) bucket (inside d c y k)) node hash

    entered : (n d : ℕ) (value : Value) → IsAmongDefinitions records d → node_value records (indexed_label records d) (indexed_key records d) n ≡ Some value
        → IsEntered records d n
    entered n d value a is =
        let e : Entry = record { label = indexed_label records d; key = indexed_key records d; node = n; hash = hash_of value } in
        let i = member d a in
        let low : bucket_of (hash_of value) < 180 = omega arith in
        let found = ix.all d e i refl refl (ap (has_hash (hash_of value)) is ∙ same_eq (hash_of value)) in
        record {
          bucket = bucket_of (hash_of value);
          entry = found.id;
          there = record {
            definition = a;
            low = low;
            members = ix.lists d (bucket_of (hash_of value));
            list = bucket_list d (bucket_of (hash_of value))
                i low;
            member = found.member;
          };
          node = ap (λ (z : Entry). z.node) found.is;
        }
      where
        same_eq : (h : ℕ) → nat_eq h h ≡ true
        same_eq h = grind arith

    of_an_index : (x : ℕ) → IsOfIndex records ix.definitions ix.lists x → IsOfAnIndex records x
    of_an_index x (IsDefinition i) = Defines (defines x i)
    of_an_index x (IsHeads d c i lt e) = Heads d c (record { definition = defines d i; low = lt; is = e })
    of_an_index x (IsEntry d b i lt m) = Enters d b (record {
      definition = defines d i;
      low = lt;
      members = ix.lists d b;
      list = bucket_list d b i lt;
      member =
          m;
    })

    pub parts_of : EachKeeps records
    parts_of = record {
      meta = record { members = ix.definitions; list = list };
      definition = λ d a. record {
        alone = λ e o l q. ix.distinct e d (member e o) (member d a) l q;
        heads = λ c lt. ix.heads d c (member d a) lt;
        buckets = λ b lt. (ix.lists d b, bucket_list d b (member d a) lt);
      };
      head = λ h. record { once = λ d c e n p q. ix.heads_once d c e n (member d p.definition) (member e q.definition) p.low q.low (p.is ∙ sym q.is) };
      entry = λ x. record {
        once = λ d b e c p q. ix.one d b e c x (member d p.definition) (member e q.definition) p.low q.low (inside d b x p) (inside e c x q);
        wanted = λ d b p. is_wanted d b x p;
      };
      node = λ n. record { has = λ d value a is. entered n d value a is; once = λ d b x c y p q r s. once_in n d b x c y p q r s };
      held = λ x live. of_an_index x (ix.held x live);
    }
