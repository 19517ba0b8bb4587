-- What an accepted call tells: every test of it passed, and this is its outcome. One record for each call, and one lemma from
-- refusal 0 to the record. All of it holds of every memory, sound or not, but for a collection, which tests that.
use Rattle.std.specs.Prelude.{◌≡◌, refl, ◌⊎◌, Bool, true, false, ◌||◌, List, ℕ, ◌+◌, ◌*◌, ◌-◌, ◌≤◌, ◌<◌, set, leb, ltb}
use Rattle.std.proofs.Common.{sym, ◌∙◌, inl, inr, arith, leb-true, leb-false, ltb-true}
use Rattle.rules.specs.declared.Found.TheVariants.{Start}
use Rattle.rules.specs.Tests.{and_left, and_right}
use Rattle.rules.specs.Ranges.{at}
use Rattle.rules.specs.Header.{size_of, refs_of}
use Rattle.rules.specs.Pages.{page_at_start, pages_used}
use Rattle.rules.specs.Lent.{Lent, is_laid, is_valid}
use Rattle.rules.specs.Walk.{is_reference, found}
use Rattle.rules.specs.Sound.{IsObject, refs, payload, Valid}
use Rattle.rules.specs.Calls.{Outcome, refused, inside, accepted, started, start, with_object, good_shape, fits_open, may_take, new_page, allocate, look_up, load, may_store, stored, store}
use Rattle.rules.specs.Collection.{plainly, collection}
use Rattle.rules.specs.Collect.{CollectOutcome, refusal_of_collect, accepted_collect, collect}
use Rattle.laws.specs.Valid.{valid_says, valid_layout}
use Rattle.laws.specs.LookUp.{reference_says, found_object}
use Rattle.laws.specs.Walk.{size}
use Rattle.kept.specs.Refusals.{by_test, by_found, look_up_on}
use Rattle.laws.specs.Collect.{Ready, ready_says, collect_refusal, collect_accepts}

-- no refusal but 0 is 0
not_accepted : {A : Type 0} (e : ℕ) (m : Lent) → 1 ≤ e → (refused e m).refusal ≡ 0 → A
unfolding refused
not_accepted e m p z = absurd (omega arith)

not_inside : {A : Type 0} (m : Lent) (s : ℕ) → (inside s m).refusal ≡ 0 → A
unfolding inside
not_inside m s z = absurd (omega arith)

-- ---- start

pub record StartOk (m : Lent) (P T : ℕ) (o : Outcome) : Type 0 where
  pub laid : is_laid m (page_at_start P) T ≡ true
  pub is : o ≡ accepted 0 (started m (page_at_start P) T)

pub start_says : (m : Lent) (P T : ℕ) → (start m P T).refusal ≡ 0 → StartOk m P T (start m P T)
unfolding start
start_says m P T =
    by_test (λ (o : Outcome). o.refusal ≡ 0 → StartOk m P T o) (is_laid m (page_at_start P) T) _ _
    (λ laid z. record { laid = laid; is = refl }) (λ e z. not_accepted 1 m (omega arith) z)

-- ---- allocate

-- the object stands on the open page, at fill
pub record AtFill (m : Lent) (d p : ℕ) (o : Outcome) : Type 0 where
  pub fits : m.rec.fill + (d + 1) ≤ m.rec.page
  pub is : o ≡ accepted (m.rec.opened * m.rec.page + m.rec.fill) (with_object m m.rec.opened m.rec.fill d p m.labels)

-- the object begins a new page: N is at least 3k + 2
pub record OnNewPage (m : Lent) (d p : ℕ) (o : Outcome) : Type 0 where
  pub full : m.rec.page < m.rec.fill + (d + 1)
  pub room : 3 * pages_used m.labels 1 m.rec.pages + 2 ≤ m.rec.pages - 1
  pub is : o ≡ accepted (new_page m * m.rec.page) (with_object m (new_page m) 0 d p (set m.labels (new_page m) m.rec.label))

pub record AllocateOk (m : Lent) (d p : ℕ) (o : Outcome) : Type 0 where
  pub valid : Valid m
  pub small : d + 1 ≤ m.rec.page
  pub refs : p ≤ d
  pub placed : AtFill m d p o ⊎ OnNewPage m d p o

pub allocate_says : (m : Lent) (d p : ℕ) → (allocate m d p).refusal ≡ 0 → AllocateOk m d p (allocate m d p)
unfolding allocate
allocate_says m d p =
    by_test Ok (is_valid m) _ _ (λ valid.
    by_test Ok (good_shape m d p) _ _ (λ shape.
    by_test Ok (fits_open m d) _ _ (λ fits z. made valid shape _ (inl (record { fits = leb-true _ _ fits; is = refl }))) (λ full.
    by_test Ok (may_take m) _ _
    (λ room z. made valid shape _ (inr (record { full = leb-false _ _ full; room = leb-true _ _ room; is = refl })))
    (λ e z. not_accepted 3 m (omega arith) z))) (λ e z. not_accepted 2 m (omega arith) z)) (λ e z. not_accepted 1 m (omega arith) z)
  where
    Ok : Outcome → Type 0
    Ok o = o.refusal ≡ 0 → AllocateOk m d p o

    made : is_valid m ≡ true → good_shape m d p ≡ true → (o : Outcome) → AtFill m d p o ⊎ OnNewPage m d p o → AllocateOk m d p o
    made v s o w =
        let q = leb-true d (m.rec.page - 1) (and_left _ _ s) in
        record {
          valid = valid_says m v;
          small = omega (arith, (valid_layout m (valid_says m v)).page_low);
          refs = leb-true _ _ (and_right (leb d (m.rec.page - 1)) _ s);
          placed = w;
        }

-- ---- look-up, load and store

pub record LookUpOk (m : Lent) (a : ℕ) (o : Outcome) : Type 0 where
  pub valid : Valid m
  pub object : IsObject m a
  pub is : o ≡ accepted a m

pub look_up_says : (m : Lent) (a : ℕ) → (look_up m a).refusal ≡ 0 → LookUpOk m a (look_up m a)
unfolding look_up
look_up_says m a =
    rw (look_up_on m a (found m a))
    (by_test Ok (is_valid m) _ _ (λ valid.
    by_found Ok m a (found m a) _ (λ w here z. record { valid = valid_says m valid; object = (found_object m a w here).0; is = refl })
    (λ s e. not_inside m s) (λ z. not_accepted 4 m (omega arith) z)) (λ e z. not_accepted 1 m (omega arith) z))
  where
    Ok : Outcome → Type 0
    Ok o = o.refusal ≡ 0 → LookUpOk m a o

-- payload word i of the object at a
pub record PayloadOk (m : Lent) (a i : ℕ) : Type 0 where
  pub valid : Valid m
  pub object : IsObject m a
  pub index : i + 1 < size m.heap a

payload_says : (m : Lent) (a i w : ℕ) → is_valid m ≡ true → found m a ≡ Start w → ltb i (size_of w - 1) ≡ true → PayloadOk m a i × (w ≡ at m.heap a)
payload_says m a i w v f x =
    let o = found_object m a w f in
    let q = ltb-true i (size_of w - 1) x in
    (record { valid = valid_says m v; object = o.0; index = rw (sym o.1) (omega arith) }, o.1)

pub record LoadOk (m : Lent) (a i : ℕ) (o : Outcome) : Type 0 where
  pub word : PayloadOk m a i
  pub is : o ≡ accepted (payload m a i) m

pub load_says : (m : Lent) (a i : ℕ) → (load m a i).refusal ≡ 0 → LoadOk m a i (load m a i)
unfolding load
load_says m a i =
    by_test Ok (is_valid m) _ _ (λ valid.
    by_found Ok m a (found m a) _ (λ w here.
    by_test Ok (ltb i (size_of w - 1)) _ _ (λ index z. record { word = (payload_says m a i w valid here index).0; is = refl })
    (λ e z. not_accepted 5 m (omega arith) z)) (λ s e. not_inside m s) (λ z. not_accepted 4 m (omega arith) z)) (λ e z. not_accepted 1 m (omega arith) z)
  where
    Ok : Outcome → Type 0
    Ok o = o.refusal ≡ 0 → LoadOk m a i o

pub record StoreOk (m : Lent) (a i v : ℕ) (o : Outcome) : Type 0 where
  pub word : PayloadOk m a i
  pub value : i < refs m a → (v ≡ 0) ⊎ IsObject m v
  pub is : o ≡ accepted 0 (stored m a i v)

pub store_says : (m : Lent) (a i v : ℕ) → (store m a i v).refusal ≡ 0 → StoreOk m a i v (store m a i v)
unfolding store may_store
store_says m a i v =
    by_test Ok (is_valid m) _ _ (λ valid.
    by_found Ok m a (found m a) _ (λ w here.
    by_test Ok (ltb i (size_of w - 1)) _ _ (λ index.
    by_test Ok (may_store m w i v) _ _ (λ may z.
    let q = payload_says m a i w valid here index in
    record { word = q.0; value = λ h. value w may (rw (sym q.1) at h); is = refl })
    (λ e z. not_accepted 6 m (omega arith) z)) (λ e z. not_accepted 5 m (omega arith) z)) (λ s e. not_inside m s) (λ z. not_accepted 4 m (omega arith) z))
    (λ e z. not_accepted 1 m (omega arith) z)
  where
    Ok : Outcome → Type 0
    Ok o = o.refusal ≡ 0 → StoreOk m a i v o

    value : (w : ℕ) → may_store m w i v ≡ true → i < refs_of w → (v ≡ 0) ⊎ IsObject m v
    value w e h = go (leb (refs_of w) i) refl e
      where
        go : (b : Bool) → leb (refs_of w) i ≡ b → (b || is_reference m v) ≡ true → (v ≡ 0) ⊎ IsObject m v
        go true q t = absurd (let n = leb-true (refs_of w) i q in omega arith)
        go false q t = reference_says m v t

-- ---- collect

pub record CollectOk (m : Lent) (cells hints : List ℕ) (o : CollectOutcome) : Type 0 where
  pub ready : Ready m cells
  pub is : o ≡ accepted_collect (collection plainly m cells hints)

pub collect_says : (m : Lent) (roots hints : List ℕ) → (collect m roots hints).refusal ≡ 0 → CollectOk m roots hints (collect m roots hints)
collect_says m roots hints z =
    let e : refusal_of_collect m roots ≡ 0 = sym (collect_refusal m roots hints) ∙ z in
    record { ready = ready_says m roots e; is = collect_accepts m roots hints e }
