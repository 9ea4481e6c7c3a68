mod OneName
mod Others
mod Parts
