-- The tags that rules and typing name, with # in front. Names are those of the operator enums of tag.rs (document 004) where it has
-- them; 1, 3, 4, 5, 601, 620, 701 and 901 are in none of its enums, which has them as constants ("ours are 1 identifier, 3 bound identifier, 4 literal, 5 set
-- extension, 601 bool(P), 620 finite, 701 not, 901 partition"). No rule names 4 or 601.
use Rattle.std.specs.Prelude.{ℕ}

-- an identifier
abbrev pub #FreeIdent : ℕ
#FreeIdent = 1

-- a bound identifier
abbrev pub #BoundIdent : ℕ
#BoundIdent = 3

-- {a, …, b}
abbrev pub #SetExt : ℕ
#SetExt = 5

-- =
abbrev pub #Equal : ℕ
#Equal = 101

-- <
abbrev pub #Lt : ℕ
#Lt = 103

-- ≤
abbrev pub #Le : ℕ
#Le = 104

-- >
abbrev pub #Gt : ℕ
#Gt = 105

-- ≥
abbrev pub #Ge : ℕ
#Ge = 106

-- ∈
abbrev pub #In : ℕ
#In = 107

-- ⊆
abbrev pub #SubsetEq : ℕ
#SubsetEq = 111

-- ↦
abbrev pub #Mapsto : ℕ
#Mapsto = 201

-- surjective relations, <->>
abbrev pub #SRel : ℕ
#SRel = 204

-- total surjective relations, <<->>
abbrev pub #STRel : ℕ
#STRel = 205

-- ∖
abbrev pub #SetMinus : ℕ
#SetMinus = 213

-- ×
abbrev pub #CProd : ℕ
#CProd = 214

-- ⊗
abbrev pub #DProd : ℕ
#DProd = 215

-- ∥
abbrev pub #PProd : ℕ
#PProd = 216

-- ◁
abbrev pub #DomRes : ℕ
#DomRes = 217

-- ⩤
abbrev pub #DomSub : ℕ
#DomSub = 218

-- ▷
abbrev pub #RanRes : ℕ
#RanRes = 219

-- ⩥
abbrev pub #RanSub : ℕ
#RanSub = 220

-- ‥
abbrev pub #UpTo : ℕ
#UpTo = 221

-- r[S]
abbrev pub #RelImage : ℕ
#RelImage = 227

-- ⇒
abbrev pub #LImp : ℕ
#LImp = 251

-- ⇔
abbrev pub #LEqv : ℕ
#LEqv = 252

-- ∪
abbrev pub #BUnion : ℕ
#BUnion = 301

-- ∩
abbrev pub #BInter : ℕ
#BInter = 302

-- ∘
abbrev pub #BComp : ℕ
#BComp = 303

-- ;
abbrev pub #FComp : ℕ
#FComp = 304

-- <+
abbrev pub #Ovr : ℕ
#Ovr = 305

-- ∧
abbrev pub #LAnd : ℕ
#LAnd = 351

-- ∨
abbrev pub #LOr : ℕ
#LOr = 352

-- ℤ
abbrev pub #Integer : ℕ
#Integer = 401

-- ℕ
abbrev pub #Natural : ℕ
#Natural = 402

-- ℕ1
abbrev pub #Natural1 : ℕ
#Natural1 = 403

-- BOOL
abbrev pub #Bool : ℕ
#Bool = 404

-- TRUE
abbrev pub #True : ℕ
#True = 405

-- FALSE
abbrev pub #False : ℕ
#False = 406

-- ∅
abbrev pub #EmptySet : ℕ
#EmptySet = 407

-- prj1
abbrev pub #KPrj1Gen : ℕ
#KPrj1Gen = 410

-- prj2
abbrev pub #KPrj2Gen : ℕ
#KPrj2Gen = 411

-- id
abbrev pub #KIdGen : ℕ
#KIdGen = 412

-- ⊤
abbrev pub #BTrue : ℕ
#BTrue = 610

-- ⊥
abbrev pub #BFalse : ℕ
#BFalse = 611

-- finite(S)
abbrev pub #Finite : ℕ
#Finite = 620

-- ¬
abbrev pub #Not : ℕ
#Not = 701

-- ℙ
abbrev pub #Pow : ℕ
#Pow = 752

-- ℙ1
abbrev pub #Pow1 : ℕ
#Pow1 = 753

-- union
abbrev pub #KUnion : ℕ
#KUnion = 754

-- inter
abbrev pub #KInter : ℕ
#KInter = 755

-- dom
abbrev pub #KDom : ℕ
#KDom = 756

-- ran
abbrev pub #KRan : ℕ
#KRan = 757

-- ∼
abbrev pub #Converse : ℕ
#Converse = 763

-- ⋃
abbrev pub #QUnion : ℕ
#QUnion = 801

-- ⋂
abbrev pub #QInter : ℕ
#QInter = 802

-- {x · P ∣ E}
abbrev pub #CSet : ℕ
#CSet = 803

-- ∀
abbrev pub #Forall : ℕ
#Forall = 851

-- ∃
abbrev pub #Exists : ℕ
#Exists = 852

-- partition(S, …)
abbrev pub #Partition : ℕ
#Partition = 901
