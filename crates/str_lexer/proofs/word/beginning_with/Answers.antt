use Rattle.std.proofs.Common.{refl}
use Rattle.str_lexer.proofs.WordLaws.{among}
use Rattle.str_lexer.proofs.word.beginning_with.Goals as goal

pub returns-in-95 : goal.returns-in-95
returns-in-95 c = among _ 95 _ c.in-95.is refl

pub returns-in-97 : goal.returns-in-97
returns-in-97 c = among _ 97 _ c.in-97.is refl

pub returns-in-99 : goal.returns-in-99
returns-in-99 c = among _ 99 _ c.in-99.is refl

pub returns-in-101 : goal.returns-in-101
returns-in-101 c = among _ 101 _ c.in-101.is refl

pub returns-in-102 : goal.returns-in-102
returns-in-102 c = among _ 102 _ c.in-102.is refl

pub returns-in-105 : goal.returns-in-105
returns-in-105 c = among _ 105 _ c.in-105.is refl

pub returns-in-108 : goal.returns-in-108
returns-in-108 c = among _ 108 _ c.in-108.is refl

pub returns-in-109 : goal.returns-in-109
returns-in-109 c = among _ 109 _ c.in-109.is refl

pub returns-in-110 : goal.returns-in-110
returns-in-110 c = among _ 110 _ c.in-110.is refl

pub returns-in-111 : goal.returns-in-111
returns-in-111 c = among _ 111 _ c.in-111.is refl

pub returns-in-112 : goal.returns-in-112
returns-in-112 c = among _ 112 _ c.in-112.is refl

pub returns-in-114 : goal.returns-in-114
returns-in-114 c = among _ 114 _ c.in-114.is refl

pub returns-in-115 : goal.returns-in-115
returns-in-115 c = among _ 115 _ c.in-115.is refl

pub returns-in-116 : goal.returns-in-116
returns-in-116 c = among _ 116 _ c.in-116.is refl

pub returns-in-119 : goal.returns-in-119
returns-in-119 c = among _ 119 _ c.in-119.is refl
