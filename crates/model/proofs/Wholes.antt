-- The tries over equal tables.
use Rattle.std.proofs.Common.{◌≡◌, ℕ, Bool, false, List, None, Option, ap, ◌∙◌}
use Rattle.draw.specs.declared.rows.Share.{Share}
use Rattle.link.specs.declared.words.Word.{Word}
use Rattle.roster.specs.declared.row.PeerRow.{PeerRow}
use Rattle.live.specs.declared.row.KeyRow.{KeyRow}
use Rattle.live.specs.declared.queue.QueueRow.{QueueRow}
use Rattle.model.specs.Tries.{try_keys, limit}

pub tries_same : {P V K : Type 0} (word : P → ℕ → Word) (time : ℕ) (ps ps' : List (PeerRow P V)) (out : List (KeyRow K P)) (aims : K → P → Bool)
    (xs xs' : List Share) (ks ks' : List (QueueRow K)) (w : ℕ → ℕ) (next : Option ℕ) → ps ≡ ps' → xs ≡ xs' → ks ≡ ks'
    → try_keys word time ps out aims xs ks w next limit None false ≡ try_keys word time ps' out aims xs' ks' w next limit None false
tries_same word time ps ps' out aims xs xs' ks ks' w next a b c =
    ap (λ z. try_keys word time z out aims xs ks w next limit None false) a
    ∙ ap (λ z. try_keys word time ps' out aims z ks w next limit None false) b
    ∙ ap (λ z. try_keys word time ps' out aims xs' z w next limit None false) c
