-- The chain of a bucket as a line.
use Rattle.std.proofs.Common.{◌≡◌, ◌≢◌, ℕ, ◌/◌, ◌<◌, ◌≤◌, Bool, true, ◌&&◌, List, [], ◌∷◌, nat_eq, ap, ◌∙◌, inl, inr, arith, refl}
use Rattle.std.proofs.lemmas.Bool.{and_from, eq-eqb, eqb-true}
use Rattle.rec_bytes.specs.Format as format
use Rattle.rec_bytes.specs.Record.{field}
use Rattle.record_lists.specs.Lines.{IsLine, IsLineIn}
use Rattle.record_lists.proofs.LineLaws.{below_in}
use Rattle.store_rules.specs.Chains.{In, IsChain}
use Rattle.store_rules.specs.Hashes.{bucket_of}
use Rattle.store_rules.specs.IndexBreaking.{IsBucketList}
use Rattle.store_rules.specs.Indexes.{entry_hash, first_entry, heads_of, index_rec, next_entry, previous_entry}
use Rattle.store_rules.specs.Views.{Records, high, kind_at}
use Rattle.store_rules.proofs.NumberLaws.{and_parts, eq_true}
use Rattle.index_check.specs.Buckets.{bucket_line, is_entry_of}
use Rattle.index_check.proofs.DefinitionLaws.{has_kind, kind_test, kind_under}

-- a line whose records name the one before them is a chain
module _ (next prev : ℕ → ℕ) (test : ℕ → Bool) (high : ℕ) where
  abbrev fits : ℕ → ℕ → Bool
  fits before x = test x && nat_eq (prev x) before

  chain_of_line : high ≤ format.most_ids → (b f : ℕ) (xs : List ℕ) → IsLine next fits high b f xs → IsChain next prev b f xs
  chain_of_line room b f [] h = h
  chain_of_line room b f (x ∷ xs) h =
      let lt : x < high = h.1 in
      (h.0, (λ e. omega arith), eqb-true (prev x) b (and_parts (test x) (nat_eq (prev x) b) h.2).1, chain_of_line room x (next x) xs h.3)

  test_of_line : (b f : ℕ) (xs : List ℕ) → IsLine next fits high b f xs → (x : ℕ) → In x xs → test x ≡ true
  test_of_line b f [] h x i = elim i [ ]
  test_of_line b f (y ∷ ys) h x (inl e) = ap test e ∙ (and_parts (test y) (nat_eq (prev y) b) h.2).0
  test_of_line b f (y ∷ ys) h x (inr i) = test_of_line y (next y) ys h.3 x i

  line_of_chain : (b f : ℕ) (xs : List ℕ) → IsChain next prev b f xs → ((x : ℕ) → In x xs → x < high) → ((x : ℕ) → In x xs → test x ≡ true)
      → IsLine next fits high b f xs
  line_of_chain b f [] h low ok = h
  line_of_chain b f (x ∷ xs) h low ok = (
    h.0,
    low x (inl refl),
    and_from (test x) (nat_eq (prev x) b) (ok x (inl refl)) (eq-eqb (prev x) b h.2),
    line_of_chain x (next x) xs h.3
        (λ y i. low y (inr i)) (λ y i. ok y (inr i)),
  )

some_entry : format.indexed ≢ 0
some_entry e = omega arith

module _ (records : Records) (d b : ℕ) where
  abbrev mark : ℕ
  mark = high records format.index_file

  abbrev test : ℕ → Bool
  test x = is_entry_of b (index_rec records x)

  abbrev next : ℕ → ℕ
  next = next_entry records

  abbrev prev : ℕ → ℕ
  prev = previous_entry records

  abbrev first : ℕ
  first = first_entry records d b

  abbrev pub IsBucketLine : List ℕ → Type 0
  IsBucketLine xs = IsLineIn (bucket_line b) records mark first xs

  parts : (x : ℕ) → test x ≡ true → (nat_eq (field 1 (index_rec records x) format.kind) format.indexed ≡ true) × (bucket_of (entry_hash records x) ≡ b)
  parts x t =
      let p = and_parts (nat_eq (field 1 (index_rec records x) format.kind) format.indexed) (nat_eq (bucket_of (entry_hash records x)) b) t in
      (p.0, eqb-true (bucket_of (entry_hash records x)) b p.1)

  pub bucket_of_line : mark ≤ format.most_ids → kind_at records format.index_file (heads_of records d (b / 15)) ≡ format.heads → (xs : List ℕ) → IsBucketLine xs
      → IsBucketList records d b xs
  bucket_of_line room head xs it = record {
    head = head;
    chain = chain_of_line next prev test mark room format.nil first xs it;
    kind = λ x i. has_kind records format.indexed some_entry x (below_in next (λ before x. test x && nat_eq (prev x) before) mark room format.nil first xs it x
        i)
        (parts x (test_of_line next prev test mark format.nil first xs it x i)).0;
    hash = λ x i. (parts x (test_of_line next prev test mark format.nil first xs it x i)).1;
  }

  pub line_of_bucket : (xs : List ℕ) → IsBucketList records d b xs → IsBucketLine xs
  line_of_bucket xs h = line_of_chain next prev test mark format.nil first xs h.chain
      (λ x i. kind_under records format.indexed some_entry x (h.kind x i))
      (λ x i. and_from (nat_eq (field 1 (index_rec records x) format.kind) format.indexed) (nat_eq (bucket_of (entry_hash records x)) b)
      (kind_test records format.indexed some_entry x (h.kind x i)) (eq_true (bucket_of (entry_hash records x)) b (h.hash x i)))

  -- what a walk from the first entry finds, after the records were read
  pub line_is : (after : Records) (n from : ℕ) → after ≡ records → n ≡ mark → from ≡ first → IsLineIn (bucket_line b) after n from ≡ IsBucketLine
  line_is after n from read is begins = λ i. IsLineIn (bucket_line b) (read i) (is i) (begins i)
