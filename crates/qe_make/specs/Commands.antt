-- The commands of a script that is made, as JSON objects. Names stand in the rising order of their bytes.
use Rattle.std.specs.Prelude.{ℕ, ℤ, List, codes}
use Rattle.serde_json.specs.Data.{Data, number, string, object, member, no_members, unsigned}
use Rattle.serde_json.specs.Find.{of_integer}

-- a number that isn't negative, and an integer
abbrev pub count : ℕ → Data
count n = number (unsigned n)

abbrev pub integer : ℤ → Data
integer z = number (of_integer z)

-- {"_id":ID,"age":AGE,"score":SCORE}
abbrev pub document : ℕ → ℕ → ℤ → Data
document id age score = object (member (codes "_id") (count id) (member (codes "age") (count age) (member (codes "score") (integer score) no_members)))

-- {"_id":ID}
abbrev pub of_id : ℕ → Data
of_id id = object (member (codes "_id") (count id) no_members)

-- {"age":AGE}
abbrev pub of_age : ℕ → Data
of_age age = object (member (codes "age") (count age) no_members)

-- {"score":{"$gte":LOW,"$lte":HIGH}}
abbrev pub of_score : ℤ → ℤ → Data
of_score low high = object (member (codes "score") (object (member (codes "$gte") (integer low) (member (codes "$lte") (integer high) no_members))) no_members)

-- {"do":"insert","doc":DOCUMENT}
unfoldable pub insert : ℕ → ℕ → ℤ → Data
insert id age score = object (member (codes "do") (string (codes "insert")) (member (codes "doc") (document id age score) no_members))

-- {"do":"update","filter":{"_id":ID},"set":{"age":AGE}}
unfoldable pub update : ℕ → ℕ → Data
update id age = object (member (codes "do") (string (codes "update")) (member (codes "filter") (of_id id) (member (codes "set") (of_age age) no_members)))

-- {"do":"delete","filter":{"_id":ID}}
unfoldable pub delete : ℕ → Data
delete id = object (member (codes "do") (string (codes "delete")) (member (codes "filter") (of_id id) no_members))

-- {"do":"ids","filter":{"age":AGE}}
unfoldable pub ids_of_age : ℕ → Data
ids_of_age age = object (member (codes "do") (string (codes "ids")) (member (codes "filter") (of_age age) no_members))

-- {"do":"ids","filter":{"score":{"$gte":LOW,"$lte":HIGH}}}
unfoldable pub ids_of_score : ℤ → ℤ → Data
ids_of_score low high = object (member (codes "do") (string (codes "ids")) (member (codes "filter") (of_score low high) no_members))

-- {"do":"begin","kind":KIND}
unfoldable pub begin : List ℕ → Data
begin kind = object (member (codes "do") (string (codes "begin")) (member (codes "kind") (string kind) no_members))

-- {"do":"step","job":JOB,"limit":65536}
unfoldable pub step : ℕ → Data
step job = object (member (codes "do") (string (codes "step")) (member (codes "job") (count job) (member (codes "limit") (count 65536) no_members)))

-- {"do":"end","job":JOB}
unfoldable pub end_job : ℕ → Data
end_job job = object (member (codes "do") (string (codes "end")) (member (codes "job") (count job) no_members))
