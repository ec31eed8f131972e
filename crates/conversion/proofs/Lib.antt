mod Converted
