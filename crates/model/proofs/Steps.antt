-- One step of the walk.
use Rattle.std.proofs.Common.{◌≡◌, ℕ, suc, ◌+◌, ◌%◌, ◌^◌, ◌<◌, ◌≤◌, min, Bool, true, false, eqb, leb, List, ◌∷◌, length, get_or, drop, Some, None, Option, sym, refl, ap, ◌∙◌, subst, add-one}
use Rattle.std.specs.List.{slice_get}
use Rattle.std.proofs.lemmas.List.{at_drop_more, at_drop_all}
use Rattle.std.proofs.lemmas.Bool.{cond-true, cond-false, eq-eqb, le-leb, lt-leb}
use Rattle.draw.specs.declared.rows.Share.{Share}
use Rattle.draw.specs.declared.rows.By.TheVariants.{Head}
use Rattle.draw.specs.Rows.{total, pick, words_after, without}
use Rattle.link.specs.declared.words.Word.{Word}
use Rattle.link.specs.declared.words.Word.TheVariants.{Take, Closed, Wait}
use Rattle.link.specs.declared.words.Message.{Message}
use Rattle.link.specs.Meaning.{NoWait}
use Rattle.roster.specs.declared.row.PeerRow.{PeerRow}
use Rattle.live.specs.declared.row.KeyRow.{KeyRow}
use Rattle.live.specs.declared.queue.QueueRow.{QueueRow}
use Rattle.model.specs.Ids.{id_of, next_of, words_of}
use Rattle.live.specs.Requests.{id_out}
use Rattle.model.specs.Tries.{sooner_of, rows_for, Tried, Fetched, missed, or_missed, try_one, try_peers, try_rows, go_on, try_keys, Carried, Unused}

pub closed_is : (v : Word) → NoWait v → (v ≡ Take → ⊥) → v ≡ Closed
closed_is Take f h = absurd (h refl)
closed_is Closed f h = refl
closed_is (Wait t) f h = absurd f

-- a draw from no rows takes no word
pub words_none : (xs : List Share) (r : ℕ) (w : ℕ → ℕ) → total Head xs ≡ 0 → words_after xs r w ≡ w
words_none xs r w e = cond-true (eqb (total Head xs) 0) _ _ (eq-eqb (total Head xs) 0 e)

module _ {P V K : Type 0} (word : P → ℕ → Word) (time : ℕ) (peers : List (PeerRow P V)) (out : List (KeyRow K P)) where
  pub rows_none : (xs : List Share) (r : ℕ) (w : ℕ → ℕ) (next wait : Option ℕ) (allowed : Bool) → total Head xs ≡ 0
      → try_rows word time peers out xs r w next wait allowed ≡ missed word time peers out w next wait allowed
  rows_none xs r w next wait allowed e = ap (λ n. try_peers word time peers out n xs r w next wait allowed) e

  module _ (xs : List Share) (r : ℕ) (w : ℕ → ℕ) (next wait : Option ℕ) (allowed : Bool) (p : ℕ) (row : PeerRow P V)
      (e : Some p ≡ pick xs r w) (n : total Head (without xs p) + 1 ≡ total Head xs) (at : slice_get peers p ≡ Some row) where
    pub rows_some : (v : Word) → word row.peer time ≡ v → try_rows word time peers out xs r w next wait allowed
        ≡ try_one word time peers out (λ w' next' wait'. try_rows word time peers out (without xs p) r w' next' wait' true) (words_after xs r w) next wait row.peer v
    rows_some v ev =
        let k = total Head (without xs p) in
        let m : total Head xs ≡ suc k = sym n ∙ add-one k in
        let none = missed word time peers out w next wait allowed in
        ap (λ j. try_peers word time peers out j xs r w next wait allowed) m
        ∙ ap (λ (o : Option ℕ). or_missed word time peers out o none (λ q. or_missed word time peers out (slice_get peers q) none (λ x.
        try_one word time peers out (λ w' next' wait'. try_peers word time peers out k (without xs q) r w' next' wait' true) (words_after xs r w) next wait x.peer (word x.peer time)))) (sym e)
        ∙ ap (λ (o : Option (PeerRow P V)). or_missed word time peers out o none (λ x.
        try_one word time peers out (λ w' next' wait'. try_peers word time peers out k (without xs p) r w' next' wait' true) (words_after xs r w) next wait x.peer (word x.peer time))) at
        ∙ ap (λ u. try_one word time peers out (λ w' next' wait'. try_peers word time peers out k (without xs p) r w' next' wait' true) (words_after xs r w) next wait row.peer u) ev

    pub rows_wait : (ys : List Share) (w' : ℕ → ℕ) (wait' : Option ℕ) (t : ℕ) → word row.peer time ≡ Wait t
        → ys ≡ without xs p → w' ≡ words_after xs r w → wait' ≡ sooner_of wait t
        → try_rows word time peers out ys r w' next wait' true ≡ try_rows word time peers out xs r w next wait allowed
    rows_wait ys w' wait' t ev ey ew et =
        ap (λ z. try_rows word time peers out z r w' next wait' true) ey
        ∙ ap (λ z. try_rows word time peers out (without xs p) r z next wait' true) ew
        ∙ ap (λ z. try_rows word time peers out (without xs p) r (words_after xs r w) next z true) et
        ∙ sym (rows_some (Wait t) ev)

    pub rows_refuse : (ys : List Share) (v w' : ℕ → ℕ) (next' : Option ℕ) → word row.peer time ≡ Closed
        → ys ≡ without xs p → v ≡ words_after xs r w → w' ≡ words_of next v → next' ≡ next_of out next v
        → try_rows word time peers out ys r w' next' wait true ≡ try_rows word time peers out xs r w next wait allowed
    rows_refuse ys v w' next' ec ey ev ew en =
        ap (λ z. try_rows word time peers out z r w' next' wait true) ey
        ∙ ap (λ z. try_rows word time peers out (without xs p) r z next' wait true) (ew ∙ ap (words_of next) ev)
        ∙ ap (λ z. try_rows word time peers out (without xs p) r (words_of next (words_after xs r w)) z wait true) (en ∙ ap (next_of out next) ev)
        ∙ sym (rows_some Closed ec)

    pub rows_take : (v w' : ℕ → ℕ) (next' : Option ℕ) (id : ℕ) → word row.peer time ≡ Take
        → v ≡ words_after xs r w → w' ≡ words_of next v → next' ≡ next_of out next v → id ≡ id_of out next v
        → try_rows word time peers out xs r w next wait allowed ≡ record { hit = Some (record { id = id; peer = row.peer }); words = w'; next = next'; wait = wait; allowed = true }
    rows_take v w' next' id et ev ew en ei =
        rows_some Take et
        ∙ sym (ap (λ z. record { hit = Some (record { id = id_of out next (words_after xs r w); peer = row.peer }); words = z; next = next_of out next (words_after xs r w); wait = wait; allowed = true }) (ew ∙ ap (words_of next) ev))
        ∙ sym (ap (λ z. record { hit = Some (record { id = id_of out next (words_after xs r w); peer = row.peer }); words = w'; next = z; wait = wait; allowed = true }) (en ∙ ap (next_of out next) ev))
        ∙ sym (ap (λ z. record { hit = Some (record { id = z; peer = row.peer }); words = w'; next = next'; wait = wait; allowed = true }) (ei ∙ ap (id_of out next) ev))

  module _ (aims : K → P → Bool) (shares : List Share) (keys : List (QueueRow K)) (i : ℕ) (w : ℕ → ℕ) (next : Option ℕ) (late : ℕ) (wait : Option ℕ) (allowed : Bool) where
    pub keys_end : length keys ≤ i → try_keys word time peers out aims shares (drop i keys) w next late wait allowed
        ≡ record { sent = None; words = w; next = next; late = late; wait = wait; allowed = allowed }
    keys_end h = at_drop_all (λ ks. try_keys word time peers out aims shares ks w next late wait allowed) keys i h

    module _ (row : QueueRow K) (h : i < length keys) (e : row ≡ get_or keys i row) where
      key_at : try_keys word time peers out aims shares (drop i keys) w next late wait allowed ≡ try_keys word time peers out aims shares (row ∷ drop (i + 1) keys) w next late wait allowed
      key_at =
          at_drop_more (λ ks. try_keys word time peers out aims shares ks w next late wait allowed) keys i row h
          ∙ ap (λ (k : QueueRow K). try_keys word time peers out aims shares (k ∷ drop (i + 1) keys) w next late wait allowed) (sym e)

      pub keys_late : (late' : ℕ) → time < row.turn.deadline → late' ≡ min late row.turn.deadline
          → try_keys word time peers out aims shares (drop (i + 1) keys) w next late' wait allowed ≡ try_keys word time peers out aims shares (drop i keys) w next late wait allowed
      keys_late late' l el =
          ap (λ z. try_keys word time peers out aims shares (drop (i + 1) keys) w next z wait allowed) el
          ∙ sym (cond-false (leb row.turn.deadline time) _ _ (lt-leb row.turn.deadline time l))
          ∙ sym key_at

      module _ (l : row.turn.deadline ≤ time) (xs : List Share) (ex : xs ≡ rows_for row.aimed (aims row.key) peers shares)
          (t : Tried P) (et : try_rows word time peers out xs row.retries w next wait allowed ≡ t) where
        key_due : try_keys word time peers out aims shares (drop i keys) w next late wait allowed
            ≡ go_on word time peers out aims shares row.key late t (λ w' next' wait' allowed'. try_keys word time peers out aims shares (drop (i + 1) keys) w' next' late wait' allowed')
        key_due =
            key_at
            ∙ cond-true (leb row.turn.deadline time) _ _ (le-leb row.turn.deadline time l)
            ∙ ap (λ u. go_on word time peers out aims shares row.key late u (λ w' next' wait' allowed'. try_keys word time peers out aims shares (drop (i + 1) keys) w' next' late wait' allowed'))
            (sym (ap (λ z. try_rows word time peers out z row.retries w next wait allowed) ex) ∙ et)

      pub keys_miss : (l : row.turn.deadline ≤ time) (xs : List Share) → xs ≡ rows_for row.aimed (aims row.key) peers shares
          → (w' : ℕ → ℕ) (next' wait' : Option ℕ) (allowed' : Bool) → try_rows word time peers out xs row.retries w next wait allowed ≡ missed word time peers out w' next' wait' allowed'
          → try_keys word time peers out aims shares (drop (i + 1) keys) w' next' late wait' allowed' ≡ try_keys word time peers out aims shares (drop i keys) w next late wait allowed
      keys_miss l xs ex w' next' wait' allowed' et = sym (key_due l xs ex (missed word time peers out w' next' wait' allowed') et)

      pub keys_sent : (l : row.turn.deadline ≤ time) (xs : List Share) → xs ≡ rows_for row.aimed (aims row.key) peers shares
          → (w' : ℕ → ℕ) (next' wait' : Option ℕ) (allowed' : Bool) (id : ℕ) (peer : P)
          → try_rows word time peers out xs row.retries w next wait allowed ≡ record { hit = Some (record { id = id; peer = peer }); words = w'; next = next'; wait = wait'; allowed = allowed' }
          → try_keys word time peers out aims shares (drop i keys) w next late wait allowed
          ≡ record { sent = Some (record { id = id; peer = peer; key = row.key }); words = w'; next = next'; late = late; wait = wait'; allowed = allowed' }
      keys_sent l xs ex w' next' wait' allowed' id peer et =
          key_due l xs ex (record { hit = Some (record { id = id; peer = peer }); words = w'; next = next'; wait = wait'; allowed = allowed' }) et

pub fetched_is : {P K : Type 0} (s s' : Option (Message P K)) (w w' : ℕ → ℕ) (n n' : Option ℕ) (l : ℕ) (a a' : Option ℕ) (b b' : Bool) → s ≡ s' → w ≡ w' → n ≡ n' → a ≡ a' → b ≡ b'
    → ◌≡◌ {A = Fetched P K} (record { sent = s; words = w; next = n; late = l; wait = a; allowed = b }) (record { sent = s'; words = w'; next = n'; late = l; wait = a'; allowed = b' })
fetched_is s s' w w' n n' l a a' b b' p q r t u = cc

module _ {L P K : Type 0} (count : L → ℕ) (latest : L → Option (Message P K)) where
  pub carried_none : (l m : L) (s : Option (Message P K)) → s ≡ None → m ≡ l → Carried count latest l s m
  carried_none l m s e h = subst (λ o. Carried count latest l o m) (sym e) h

  pub carried_some : (l m : L) (s : Option (Message P K)) (x : Message P K) → s ≡ Some x → count m ≡ (count l + 1) % 2 ^ 64 → latest m ≡ Some x → Carried count latest l s m
  carried_some l m s x e h k = subst (λ o. Carried count latest l o m) (sym e) (h, k)

pub same_word : {L P : Type 0} (word : L → P → ℕ → Word) (l m : L) (p q : P) (n k : ℕ) → l ≡ m → p ≡ q → n ≡ k → word l p n ≡ word m q k
same_word word l m p q n k a b c = cc

module _ {P K : Type 0} (out : List (KeyRow K P)) where
  pub unused_none : (s : Option (Message P K)) → s ≡ None → Unused out s
  unused_none s e = subst (Unused out) (sym e) tt

  pub unused_some : (s : Option (Message P K)) (x : Message P K) → s ≡ Some x → id_out x.id out ≡ false → Unused out s
  unused_some s x e h = subst (Unused out) (sym e) h
