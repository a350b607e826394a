-- Candidates and keys of the declared types have their widths.
use Prim.Native.Nat.{◌<◌}
use denote.Laws.{Is}
use denote.Struct.Laws as LL
use Rattle.ident.specs.declared.Item.{Item}
use Rattle.ident.specs.declared.Key.{Key}
use Rattle.ident.specs.Number.{top}
use Rattle.ident.specs.Words.{hash_num, key_num}
use Rattle.ident.specs.contracts.Item as I
use Rattle.ident.proofs.Item.TheLaws as I'
use Rattle.ident.specs.contracts.Key as K
use Rattle.ident.proofs.Key.TheLaws as K'
use Rattle.ident.proofs.Words.{hash-four, hash_below}
use Rattle.machine.specs.Typed.{KeyTyped, CandidateTyped}
use Rattle.requests.specs.declared.Candidate.{Candidate}
use Rattle.requests.specs.Changes.{candidate_of}
use Rattle.requests.specs.contracts.Candidate as C
use Rattle.requests.proofs.Candidate.TheLaws as C'

-- ---- a value of the declared type `Candidate`

abbrev pub IsCandidate : Candidate → Type 0
IsCandidate c = Is C.the_row c (LL.vals C.the_type C'.the_laws c)

item_below : (i : Item) → Is I.the_row i (LL.vals I.the_type I'.the_laws i) → hash_num i.hash < top
item_below i g = hash_below i.hash (hash-four i.hash (LL.owed I.the_type I'.the_laws i _ g).1.0)

pub candidate-typed : (c : Candidate) → IsCandidate c → CandidateTyped (candidate_of c)
candidate-typed c g =
    let f = LL.owed C.the_type C'.the_laws c _ g in
    record { connection = f.0.1; hash = item_below c.item f.1.0; ready = f.1.1.0.1; priority = f.1.1.1.1.0.1 }

-- ---- and one of `Key`

abbrev pub IsKey : Key → Type 0
IsKey k = Is K.the_row k (LL.vals K.the_type K'.the_laws k)

pub key-typed : (k : Key) → IsKey k → KeyTyped (key_num k)
key-typed k g = hash_below k.hash (hash-four k.hash (LL.owed K.the_type K'.the_laws k _ g).1.0)
